-- What a piece does to a follower.
use Rattle.std.proofs.Common.{◌≡◌, ℕ, ◌+◌, ◌≤◌, arith, List, [], ◌++◌, length, take, drop, Some, None, refl, sym, ap, subst, ◌∙◌, append_assoc, append-nil, length-append}
use Rattle.std.proofs.lemmas.List.{drop_at, drop-append-le, drop-drop, take_at}
use Rattle.std.proofs.lemmas.List.Concat.{flat_map-append}
use Rattle.ps_types.specs.declared.entry.Entry.{Entry}
use Rattle.ps_model.specs.Book.{State}
use Rattle.ps_follow_laws.specs.Feed.{AreTaken, Ends, Fed, Stop, after_all, bad, feed_of, gap, goes_on, other, sent_bytes}
use Rattle.ps_follow_laws.specs.Follow.{IsFront}
use Rattle.ps_follow_laws.proofs.Ending.{grows}
use Rattle.ps_follow_laws.proofs.Piecewise.{after-both, goes-on, taken-both}
use Rattle.ps_follow.specs.Feeding.{EndsAs, Went}
use Rattle.ps_follow.specs.Followed.{IsAt, IsOfFront, RefusedAs}
use Rattle.ps_follow.specs.Following.{Goes}
use Rattle.ps_follow.specs.Refused.{refused_by}
use Rattle.ps_follow.specs.View.{Following}
use Rattle.ps_follow.specs.declared.feeding.End.{End}
use Rattle.ps_follow.specs.declared.feeding.End.TheVariants as end
use Rattle.ps_follow.specs.declared.refusal.FeedRefusal.{FeedRefusal}
use Rattle.ps_follow.specs.declared.refusal.FeedRefusal.TheVariants as refusal
use Rattle.ps_follow.proofs.Takes.{log-length}

fed-of : (F G : List Entry) (bytes : List ℕ) (at : ℕ) (stop : Stop) → Goes F bytes G at (drop at bytes) → Ends G (drop at bytes) stop → Fed F bytes G at stop
fed-of F G bytes at stop g e = record { sent = g.sent; rest = drop at bytes; taken = g.taken; split = g.split; offset = g.offset; entries = g.entries; ends = e }

goes-of : (E F : List Entry) (bytes : List ℕ) (at : ℕ) (stop : Stop) (f : Fed E bytes F at stop) → Goes E bytes F at f.rest
goes-of E F bytes at stop f = record { sent = f.sent; taken = f.taken; split = f.split; offset = f.offset; entries = f.entries }

-- records behind records
goes-both : (E F G : List Entry) (stream piece rest more : List ℕ) (at taken : ℕ) → Goes E stream F at rest → Goes F (rest ++ piece) G taken more → Goes E (stream ++ piece) G (at + taken) more
goes-both E F G stream piece rest more at taken f g =
    let S = f.sent in
    let T = g.sent in
    let both : feed_of (S ++ T) ≡ feed_of S ++ feed_of T = flat_map-append sent_bytes S T in
    let l = length-append (feed_of S) (feed_of T) in
    let a = f.offset in
    let b = g.offset in
    let sum : at + taken ≡ length (feed_of S ++ feed_of T) = omega (arith, l, a, b) in
    record {
      sent = S ++ T;
      taken = taken-both S T E f.taken (subst (λ (H : List Entry). AreTaken H T) f.entries g.taken);
      split = ap (λ (t : List ℕ). t ++ piece) f.split ∙ append_assoc (feed_of S) rest piece ∙ ap (λ (t : List ℕ). feed_of S ++ t) g.split
          ∙ sym (append_assoc (feed_of S) (feed_of T) more) ∙ ap (λ (t : List ℕ). t ++ more) (sym both);
      offset = sum ∙ ap (λ (t : List ℕ). length t) (sym both);
      entries = g.entries ∙ ap (λ (H : List Entry). after_all H T) f.entries ∙ sym (after-both S T E);
    }

-- the records alone
front-of : (E F : List Entry) (bytes rest : List ℕ) (at : ℕ) → Goes E bytes F at rest → IsOfFront E bytes F
front-of E F bytes rest at g = record {
  at = at;
  fed = record {
    sent = g.sent;
    rest = [];
    taken = g.taken;
    split = ap (take at) g.split ∙ take_at (feed_of g.sent) rest at (sym g.offset) ∙ sym (append-nil (feed_of g.sent));
    offset = g.offset;
    entries = g.entries;
    ends = record { short = refl; part = refl };
  };
}

module _ (f : Following) (E F : List Entry) (stream piece : List ℕ) (is : IsAt f E stream F) where
  rest-is : f.rest ≡ is.fed.rest
  rest-is = is.left ∙ ap (drop f.at) is.fed.split ∙ drop_at (feed_of is.fed.sent) is.fed.rest f.at (sym is.fed.offset)

  begun : Goes E stream F f.at f.rest
  begun = subst (Goes E stream F f.at) (sym rest-is) (goes-of E F stream f.at goes_on is.fed)

  -- nothing of the piece is taken
  pub stays-front : IsOfFront E (stream ++ piece) F
  stays-front =
      let none : Goes F (f.rest ++ piece) F 0 (f.rest ++ piece) = record { sent = []; taken = tt; split = refl; offset = refl; entries = refl } in
      let at : f.at + 0 ≡ f.at = omega arith in
      front-of E F (stream ++ piece) (f.rest ++ piece) (f.at + 0) (goes-both E F F stream piece f.rest (f.rest ++ piece) f.at 0 begun none)

  module _ (later : State) (more : List (List ℕ)) (taken : ℕ) (bytes : List ℕ) (why : End) (came : bytes ≡ f.rest ++ piece) (w : Went F bytes later more taken why) where
    joined : bytes ≡ drop f.at stream ++ piece
    joined = came ∙ ap (λ (t : List ℕ). t ++ piece) is.left

    whole : (stop : Stop) → Ends w.entries (drop taken bytes) stop → Fed E (stream ++ piece) w.entries (f.at + taken) stop
    whole stop e = goes-on E F w.entries stream piece f.at taken stop is.fed (subst (λ (t : List ℕ). Fed F t w.entries taken stop) joined (fed-of F w.entries bytes taken stop w.goes e))

    went-front : IsOfFront E (stream ++ piece) w.entries
    went-front =
        let g : Goes F (f.rest ++ piece) w.entries taken (drop taken bytes) = subst (λ (t : List ℕ). Goes F t w.entries taken (drop taken bytes)) came w.goes in
        front-of E w.entries (stream ++ piece) (drop taken bytes) (f.at + taken) (goes-both E F w.entries stream piece f.rest (drop taken bytes) f.at taken begun g)

    by-end : (o : End) → EndsAs w.entries (drop taken bytes) o → (refused : FeedRefusal) → refused_by o (f.at + taken) (length more) ≡ Some refused → RefusedAs E (stream ++ piece) w.entries refused
    by-end end.Part e refused h = absurd (let none : None ≡ Some refused = h in cc none)
    by-end end.Bad e refused h = let same : refusal.Bad (f.at + taken) ≡ refused = cc h in subst (RefusedAs E (stream ++ piece) w.entries) same (whole bad e)
    by-end end.Gap e refused h =
        let same : refusal.Gap (f.at + taken) (length more) ≡ refused = cc h in
        subst (RefusedAs E (stream ++ piece) w.entries) same (whole gap e, log-length later more w.entries w.stands)
    by-end end.Differs e refused h = let same : refusal.Differs (f.at + taken) ≡ refused = cc h in subst (RefusedAs E (stream ++ piece) w.entries) same (whole other e)
    by-end end.Memory e refused h = let same : refusal.Memory ≡ refused = cc h in subst (RefusedAs E (stream ++ piece) w.entries) same went-front

    pub refused-as : (refused : FeedRefusal) → refused_by why (f.at + taken) (length more) ≡ Some refused → RefusedAs E (stream ++ piece) w.entries refused
    refused-as refused h = by-end why w.ends refused h

    within : f.at ≤ length stream
    within =
        let l = ap (λ (t : List ℕ). length t) is.fed.split in
        let a = length-append (feed_of is.fed.sent) is.fed.rest in
        let o = is.fed.offset in
        omega (arith, l, a, o)

    pub left-is : drop taken bytes ≡ drop (f.at + taken) (stream ++ piece)
    left-is = ap (drop taken) (joined ∙ sym (drop-append-le f.at stream piece within)) ∙ drop-drop taken f.at (stream ++ piece)

    on-by : (o : End) → EndsAs w.entries (drop taken bytes) o → refused_by o (f.at + taken) (length more) ≡ None → Ends w.entries (drop taken bytes) goes_on
    on-by end.Part e h = e
    on-by end.Bad e h = absurd (let no : Some (refusal.Bad (f.at + taken)) ≡ None = h in cc no)
    on-by end.Gap e h = absurd (let no : Some (refusal.Gap (f.at + taken) (length more)) ≡ None = h in cc no)
    on-by end.Differs e h = absurd (let no : Some (refusal.Differs (f.at + taken)) ≡ None = h in cc no)
    on-by end.Memory e h = absurd (let no : Some refusal.Memory ≡ None = h in cc no)

    pub fed-on : refused_by why (f.at + taken) (length more) ≡ None → Fed E (stream ++ piece) w.entries (f.at + taken) goes_on
    fed-on h = whole goes_on (on-by why w.ends h)

-- what was there stays
pub grown : (F : List Entry) (bytes : List ℕ) (later : State) (more : List (List ℕ)) (taken : ℕ) (why : End) (w : Went F bytes later more taken why) → IsFront F w.entries
grown F bytes later more taken why w = subst (IsFront F) (sym w.goes.entries) (grows F w.goes.sent)

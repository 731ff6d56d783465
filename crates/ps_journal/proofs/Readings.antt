-- Reading a store piece by piece.
use Rattle.std.proofs.Common.{◌≡◌, ◌≢◌, ℕ, zero, suc, ◌+◌, ◌-◌, ◌<◌, ◌≤◌, ◌^◌, ◌⊎◌, cond, eqb, Bool, true, false, List, [], ◌∷◌, ◌++◌, length, take, drop, Option, Some, None, inl, inr, refl, sym, ap, subst, ◌∙◌, append_assoc, arith, length-append, length-take, length-drop}
use Rattle.std.specs.Str.{bytes_eq}
use Rattle.std.specs.Prelude.{codes, min, nat_le, ◌||◌, ◌==◌, if◌then◌else◌}
use Rattle.std.proofs.lemmas.List.{append-nil, take_at, drop_at, take-append-drop, take_all, take-take, drop-drop, drop-append-le, take-append-le}
use Rattle.ps_disk.specs.Disk.{LeavesOnly, MayLeave, Elapses}
use Rattle.ps_disk.proofs.Moments.{started, goes_on, then_on}
use Rattle.ps_model.specs.Store.{is_header, is_second, is_unbegun, frame, frames, AreBodies, gate_at}
use Rattle.std.specs.Int.{w32, from_be_bytes, to_be_bytes}
use Rattle.std.proofs.lemmas.Bool.{cases_lt, le-ltb}
use Rattle.std.proofs.lemmas.Bool.Decides.{nat_tests}
use Rattle.ps_record.specs.Raw.{◌>>=◌, number_at}
use Rattle.ps_journal.specs.Beginning.{has_zero_first}
use Rattle.ps_journal.specs.Judged.{Judged, Stride, shut, bad, whole, stride_of, stride_at, whole_at}
use Rattle.ps_journal.specs.Pieces.{front_of, StandAt, IsHeld, Reaches, behind_in, extent_at, extent_of, onward, StrideStands, OnlyReads, AreSound}
use Rattle.ps_journal.specs.declared.judging.Placed.{Placed}
use Rattle.ps_journal.specs.declared.pieces.Piece.{Piece}
use Rattle.ps_record.proofs.Pieces.{IsBytes, IsBytes-rest}
use Rattle.ps_journal.proofs.Bodies.{header_size, are_bodies_push, frames_push, gate_at_push}
use Rattle.ps_journal.proofs.Verdicts.{FramesSoFar, AtFrame, IsWhole, at_frame, whole_takes, passes}

-- ---- nothing but reads

module _ {D : Type 0} (tells : Type 0) (seen synced : D → List ℕ) (written : D → List (ℕ × ℕ)) (moment : D → ℕ) (left_since : D → ℕ → List ℕ → Type 0) (faults : D → ℕ) where
  pub none_read : ((d : D) (c : List ℕ) → left_since d (moment d) c → MayLeave (synced d) (written d) c) → (d : D) → OnlyReads tells seen synced written moment left_since faults d d
  none_read now d = record {
    same_seen = refl;
    same_synced = refl;
    same_written = refl;
    time = λ t. started moment left_since d (MayLeave (synced d) (written d)) (now d);
    later = omega arith;
  }

  pub then_read : (a b c : D) → OnlyReads tells seen synced written moment left_since faults a b → OnlyReads tells seen synced written moment left_since faults b c → OnlyReads tells seen synced written moment left_since faults a c
  then_read a b c first second = record {
    same_seen = second.same_seen ∙ first.same_seen;
    same_synced = second.same_synced ∙ first.same_synced;
    same_written = second.same_written ∙ first.same_written;
    time = λ t. then_on moment left_since a b c _ _ (MayLeave (synced a) (written a)) (first.time t) (second.time t) (λ f l. l)
        (λ f l. subst (λ (s : List ℕ). MayLeave s (written a) f) first.same_synced (subst (λ (w : List (ℕ × ℕ)). MayLeave (synced b) w f) first.same_written l));
    later = omega (arith, first.later, second.later);
  }

  pub one_read : ((d : D) (c : List ℕ) → left_since d (moment d) c → MayLeave (synced d) (written d) c) → (a b : D) → seen b ≡ seen a → synced b ≡ synced a → written b ≡ written a
      → (tells → Elapses (moment a) (moment b) (left_since a) (left_since b) (MayLeave (synced b) (written b))) → faults a ≤ faults b → OnlyReads tells seen synced written moment left_since faults a b
  one_read now a b s y w time later = record {
    same_seen = s;
    same_synced = y;
    same_written = w;
    time = λ t. goes_on moment left_since a a b (MayLeave (synced a) (written a)) _ (started moment left_since a (MayLeave (synced a) (written a)) (now a)) (time t)
        (λ f l. subst (λ (s : List ℕ). MayLeave s (written a) f) y (subst (λ (w : List (ℕ × ℕ)). MayLeave (synced b) w f) w l));
    later = later;
  }

-- ---- the first bytes

pub front_header : (seen : List ℕ) → is_header (take 8 (front_of seen)) ≡ is_header (take 8 seen)
front_header seen = ap is_header (take-take 8 10 seen (omega arith))

pub front_second : (seen : List ℕ) → is_second (front_of seen) ≡ is_second seen
front_second seen = ap (λ (l : List ℕ). bytes_eq (drop 7 l) (codes "2")) (take-take 8 10 seen (omega arith))

pub front_zero : (seen : List ℕ) → has_zero_first (front_of seen) ≡ has_zero_first seen
front_zero [] = refl
front_zero (b ∷ rest) = refl

pub front_unbegun : (seen : List ℕ) → is_unbegun (front_of seen) ≡ is_unbegun seen
front_unbegun [] = refl
front_unbegun (b ∷ rest) = elim (cases_lt (length rest) 9) [
  | inl short ↦ ap (λ (l : List ℕ). is_unbegun (b ∷ l)) (take_all 9 rest (omega (arith, short)))
  | inr long ↦ rw (not_eq (length (take 9 rest)) 0 (omega (arith, length-take 9 rest, long)), not_eq (length (take 9 rest)) 8 (omega (arith, length-take 9 rest, long)), not_eq (length rest) 0 (omega (arith, long)), not_eq (length rest) 8 (omega (arith, long))) refl
]
  where
    not_eq : (n k : ℕ) → k < n → (n == k) ≡ false
    not_eq n k less = grind (arith, nat_tests)

-- ---- what stands at a gate

number_is : (x : List ℕ) → 4 ≤ length x → number_at w32 x ≡ Some (from_be_bytes w32 (take 4 x), drop 4 x)
number_is x long = rw (le-ltb (length x) 4 long) refl

number_more : (x more : List ℕ) → 4 ≤ length x → number_at w32 (x ++ more) ≡ Some (from_be_bytes w32 (take 4 x), drop 4 x ++ more)
number_more x more long =
    number_is (x ++ more) (omega (arith, long, length-append x more))
    ∙ (λ i. Some (from_be_bytes w32 (take-append-le 4 x more long i), drop-append-le 4 x more long i))

-- a length of a body, with enough bytes behind it
whole_with : (n : ℕ) (rest more : List ℕ) → n < length rest
    → stride_of (cond (eqb n 0 || nat_le (length (rest ++ more)) n) None (Some (take n (rest ++ more), drop n (rest ++ more)))) ≡ onward more (stride_of (cond (eqb n 0 || nat_le (length rest) n) None (Some (take n rest, drop n rest))))
whole_with zero rest more less = refl
whole_with (suc n) rest more less =
    rw (passes (suc n) (length (rest ++ more)) (omega arith) (omega (arith, less, length-append rest more)), passes (suc n) (length rest) (omega arith) less, take-append-le (suc n) rest more (omega (arith, less)), drop-append-le (suc n) rest more (omega (arith, less))) refl

extent_least : (o : Option (ℕ × List ℕ)) → 5 ≤ extent_of o
extent_least None = omega arith
extent_least (Some n) = omega arith

extent_some : (l : List ℕ) → 0 < extent_at l
extent_some [] = omega arith
extent_some (zero ∷ tail) = omega arith
extent_some (suc zero ∷ tail) = omega (arith, extent_least (number_at w32 tail))
extent_some (suc (suc gate) ∷ tail) = omega arith

onward_none : (s : Stride) → onward [] s ≡ s
onward_none shut = refl
onward_none bad = refl
onward_none (whole b after) = ap (λ (l : List ℕ). whole b l) (append-nil after)

enough : (n : ℕ) (r more : List ℕ) → min n (length (r ++ more)) ≤ length r → (n ≤ length r) ⊎ (more ≡ [])
enough n r [] le = inr refl
enough n r (m ∷ more) le = inl (omega (arith, le, length-append r (m ∷ more)))

extent_on : (r more : List ℕ) → (5 ≤ length r) ⊎ (more ≡ []) → extent_at (r ++ more) ≡ extent_at r
extent_on r more (inr none) = ap (λ (l : List ℕ). extent_at (r ++ l)) none ∙ ap extent_at (append-nil r)
extent_on [] more (inl long) = absurd (omega (arith, long))
extent_on (zero ∷ tail) more (inl long) = refl
extent_on (suc zero ∷ tail) more (inl long) =
    let four : 4 ≤ length tail = omega (arith, long) in ap extent_of (number_more tail more four) ∙ sym (ap extent_of (number_is tail four))
extent_on (suc (suc gate) ∷ tail) more (inl long) = refl

stride_on : (r more : List ℕ) → (extent_at (r ++ more) ≤ length r) ⊎ (more ≡ []) → stride_at (r ++ more) ≡ onward more (stride_at r)
stride_on r more (inr none) =
    ap (λ (l : List ℕ). stride_at (r ++ l)) none ∙ ap stride_at (append-nil r) ∙ sym (onward_none (stride_at r)) ∙ ap (λ (l : List ℕ). onward l (stride_at r)) (sym none)
stride_on [] more (inl long) = absurd (omega (arith, long, extent_some more))
stride_on (zero ∷ tail) more (inl long) = refl
stride_on (suc zero ∷ tail) more (inl long) =
    let f = λ (r : Option (ℕ × List ℕ)). stride_of (r >>= λ n. cond (eqb n.0 0 || nat_le (length n.1) n.0) None (Some (take n.0 n.1, drop n.0 n.1))) in
    let four : 4 ≤ length tail = omega (arith, long, extent_least (number_at w32 (tail ++ more))) in
    let n = from_be_bytes w32 (take 4 tail) in
    let within : n < length (drop 4 tail) = omega (arith, long, ap extent_of (number_more tail more four), length-drop 4 tail, four) in
    ap f (number_more tail more four) ∙ whole_with n (drop 4 tail) more within ∙ ap (onward more) (sym (ap f (number_is tail four)))
stride_on (suc (suc gate) ∷ tail) more (inl long) = refl

-- ---- pieces

pub stand_at : (seen : List ℕ) (at n : ℕ) (v : List ℕ) → v ≡ take n (drop at seen) → StandAt seen at v
stand_at seen at n v is = record { more = drop n (drop at seen); split = sym (take-append-drop n (drop at seen)) ∙ ap (λ (l : List ℕ). l ++ drop n (drop at seen)) (sym is) }

module _ (tells : Type 0) (seen : List ℕ) (total at : ℕ) where
  pub behind_size : (p : Piece) → IsHeld tells seen total at p → length (behind_in p at) ≡ (p.from + length p.bytes.items) - at
  behind_size p held = omega (arith, length-drop (at - p.from) p.bytes.items, held.from, held.within)

  pub behind : (p : Piece) → IsHeld tells seen total at p → tells → StandAt seen at (behind_in p at)
  behind p held t =
      let stands = held.stands t in
      let there : drop at seen ≡ drop (at - p.from) (drop p.from seen) = ap (λ (n : ℕ). drop n seen) (omega (arith, held.from)) ∙ sym (drop-drop (at - p.from) p.from seen) in
      record { more = stands.more; split = there ∙ ap (λ (l : List ℕ). drop (at - p.from) l) stands.split ∙ drop-append-le (at - p.from) p.bytes.items stands.more (omega (arith, held.from, held.within)) }

  reached : (p : Piece) (n : ℕ) (held : IsHeld tells seen total at p) (t : tells) → total ≡ length seen → Reaches total at n p → (n ≤ length (behind_in p at)) ⊎ ((behind p held t).more ≡ [])
  reached p n held t is reaches =
      let b = behind p held t in
      enough n (behind_in p at) b.more (omega (arith, reaches, behind_size p held, is, length-drop at seen, ap length b.split))

  pub stride_held : (p q : Piece) (count : ℕ) → IsHeld tells seen total at p → IsHeld tells seen total at q → tells → total ≡ length seen → Reaches total at 5 p → count ≡ extent_at (behind_in p at) → Reaches total at count q
      → StrideStands seen at (behind_in q at)
  stride_held p q count first second t is five told reaches =
      let a = behind p first t in
      let b = behind q second t in
      let same : count ≡ extent_at (behind_in q at ++ b.more) = told ∙ sym (extent_on (behind_in p at) a.more (reached p 5 first t is five)) ∙ ap extent_at (sym a.split ∙ b.split) in
      let held = reached q count second t is reaches in
      record { more = b.more; split = b.split; same = ap stride_at b.split ∙ stride_on (behind_in q at) b.more (subst (λ (n : ℕ). (n ≤ length (behind_in q at)) ⊎ (b.more ≡ [])) same held) }

-- ---- the frames so far

pub record PiecesSoFar (tells : Type 0) (refused : List Placed → Placed → Type 0) (seen : List ℕ) (second : Bool) (found : List Placed) (stop : Option ℕ) (at : ℕ) : Type 0 where
  pub bodies : List (List ℕ)
  pub each : AreBodies bodies
  pub judged : Judged refused second bodies found stop
  pub stands : at ≡ gate_at bodies
  pub split : tells → seen ≡ take 8 seen ++ frames bodies ++ drop at seen
  pub followed : tells → bodies ≢ [] → drop at seen ≢ []

pub at_start : (tells : Type 0) (refused : List Placed → Placed → Type 0) (seen : List ℕ) (second : Bool) → PiecesSoFar tells refused seen second [] None 8
at_start tells refused seen second = record {
  bodies = [];
  each = tt;
  judged = record { parts = []; each = tt; are = refl; places = refl };
  stands = refl;
  split = λ t. sym (take-append-drop 8 seen) ∙ ap (λ (l : List ℕ). l ++ drop 8 seen) (sym (append-nil (take 8 seen)));
  followed = λ t some. absurd (some refl);
}

-- where the disk tells its content, they are what the bytes have
pub so_far : (tells : Type 0) (refused : List Placed → Placed → Type 0) (seen : List ℕ) (found : List Placed) (stop : Option ℕ) (at : ℕ) (second : Bool) → tells → second ≡ is_second seen
    → PiecesSoFar tells refused seen second found stop at → FramesSoFar refused seen found stop (drop at seen)
so_far tells refused seen found stop at second t is s = record {
  bodies = s.bodies;
  each = s.each;
  split = s.split t;
  followed = s.followed t;
  judged = subst (λ (b : Bool). Judged refused b s.bodies found stop) is s.judged;
}

frame_there : (rest b after : List ℕ) → IsBytes rest → (e : stride_at rest ≡ whole b after) → IsWhole (at_frame rest b after e).tail b after
frame_there rest b after fits e =
    let f = at_frame rest b after e in whole_takes f.tail (b, after) (IsBytes-rest 1 f.tail (subst IsBytes f.is fits)) f.found

pub frame_fits : (rest b after : List ℕ) → IsBytes rest → stride_at rest ≡ whole b after → length b < 2 ^ 32
frame_fits rest b after fits e = (frame_there rest b after fits e).is.fits

pub frame_is : (rest b after : List ℕ) → IsBytes rest → stride_at rest ≡ whole b after → rest ≡ frame b ++ after
frame_is rest b after fits e = (at_frame rest b after e).is ∙ ap (λ (l : List ℕ). 1 ∷ l) (frame_there rest b after fits e).split

pub frame_size : (rest b after : List ℕ) → IsBytes rest → stride_at rest ≡ whole b after → 5 + length b ≤ length rest
frame_size rest b after fits e = omega (arith, ap length (frame_is rest b after fits e), length-append (frame b) after, length-append (to_be_bytes w32 (length b)) b)

-- one frame more
module _ (tells : Type 0) (refused : List Placed → Placed → Type 0) (seen : List ℕ) (second : Bool) (found : List Placed) (stop : Option ℕ) (at : ℕ) (s : PiecesSoFar tells refused seen second found stop at) where
  pub pieces_more : (rest b after : List ℕ) (newer : List Placed) (next : Option ℕ) → IsBytes rest → stride_at rest ≡ whole b after → Judged refused second (s.bodies ++ b ∷ []) newer next
      → (tells → is_header (take 8 seen) ≡ true) → (tells → StandAt seen at rest) → PiecesSoFar tells refused seen second newer next (at + (5 + length b))
  pieces_more rest b after newer next fits e judged header stands =
      let w = frame_there rest b after fits e in
      let split : (t : tells) → seen ≡ (take 8 seen ++ frames (s.bodies ++ b ∷ [])) ++ (after ++ (stands t).more) = λ t.
      s.split t ∙ ap (λ (l : List ℕ). take 8 seen ++ frames s.bodies ++ l) ((stands t).split ∙ ap (λ (l : List ℕ). l ++ (stands t).more) (frame_is rest b after fits e) ∙ append_assoc (frame b) after (stands t).more)
      ∙ sym (append_assoc (take 8 seen ++ frames s.bodies) (frame b) (after ++ (stands t).more))
      ∙ ap (λ (l : List ℕ). l ++ (after ++ (stands t).more)) (append_assoc (take 8 seen) (frames s.bodies) (frame b) ∙ ap (λ (l : List ℕ). take 8 seen ++ l) (sym (frames_push s.bodies b))) in
      let reached : at + (5 + length b) ≡ gate_at (s.bodies ++ b ∷ []) = omega (arith, s.stands, gate_at_push s.bodies b) in
      let behind : (t : tells) → drop (at + (5 + length b)) seen ≡ after ++ (stands t).more = λ t.
      ap (λ (l : List ℕ). drop (at + (5 + length b)) l) (split t)
      ∙ drop_at (take 8 seen ++ frames (s.bodies ++ b ∷ [])) (after ++ (stands t).more) (at + (5 + length b)) (omega (arith, reached, length-append (take 8 seen) (frames (s.bodies ++ b ∷ [])), header_size seen (header t))) in
      record {
        bodies = s.bodies ++ b ∷ [];
        each = are_bodies_push s.bodies b s.each w.is;
        judged = judged;
        stands = reached;
        split = λ t. split t ∙ ap (λ (l : List ℕ). (take 8 seen ++ frames (s.bodies ++ b ∷ [])) ++ l) (sym (behind t));
        followed = λ t some empty. not_nothing after (stands t).more w.followed (sym (behind t) ∙ empty);
      }
    where
      not_nothing : (a m : List ℕ) → a ≢ [] → a ++ m ≡ [] → ⊥
      not_nothing [] m some e = some refl
      not_nothing (x ∷ a) m some e = absurd (cc e)

-- One write after another.
use Rattle.std.proofs.Common.{◌≡◌, ℕ, ◌-◌, List, [], ◌++◌, length, take, drop, Some, None, Option, refl, sym, ◌∙◌, ap, arith, append_assoc}
use Rattle.std.proofs.lemmas.List.{take-append-drop, append-nil, take_all, length-drop}
use Rattle.std.specs.Io.KnownBytes.{Appends, Keeps}
use Rattle.ps_wire.specs.Writing.{AppendsFront}

pub appends_more : (first second third : Option (List ℕ)) (one two : List ℕ) → Appends first second one → Appends second third two → Appends first third (one ++ two)
appends_more None second third one two a b = tt
appends_more (Some x) None third one two a b = absurd a
appends_more (Some x) (Some y) None one two a b = absurd b
appends_more (Some x) (Some y) (Some z) one two a b = b ∙ ap (λ (l : List ℕ). l ++ two) a ∙ append_assoc x one two

pub appends_same : (first second third : Option (List ℕ)) (one : List ℕ) → Appends first second one → Keeps second third → Appends first third one
appends_same None second third one a b = tt
appends_same (Some x) None third one a b = absurd a
appends_same (Some x) (Some y) None one a b = absurd b
appends_same (Some x) (Some y) (Some z) one a b = b ∙ a

pub none_written : (written : Option (List ℕ)) → Appends written written []
none_written None = tt
none_written (Some x) = sym (append-nil x)

abbrev pub starts : (written : Option (List ℕ)) (bytes : List ℕ) → AppendsFront written written bytes
starts written bytes = record { front = []; behind = bytes; split = refl; appends = none_written written }

-- a front of what was behind
pub goes_on : (first second third : Option (List ℕ)) (bytes rest : List ℕ) (count : ℕ) (so_far : AppendsFront first second bytes) → so_far.behind ≡ rest → Appends second third (take count rest)
    → (now : AppendsFront first third bytes) × (now.behind ≡ take (length rest - count) (drop count rest))
goes_on first second third bytes rest count so_far is more = (
  record {
    front = so_far.front ++ take count rest;
    behind = drop count rest;
    split = so_far.split ∙ ap (λ (l : List ℕ). so_far.front ++ l) (is ∙ sym (take-append-drop count rest)) ∙ sym (append_assoc so_far.front (take count rest) (drop count rest));
    appends = appends_more first second third so_far.front (take count rest) so_far.appends more;
  },
  sym (take_all (length rest - count) (drop count rest) (omega (arith, length-drop count rest))),
)

pub stays : (first second third : Option (List ℕ)) (bytes : List ℕ) → AppendsFront first second bytes → Keeps second third → AppendsFront first third bytes
stays first second third bytes so_far same =
    record { front = so_far.front; behind = so_far.behind; split = so_far.split; appends = appends_same first second third so_far.front so_far.appends same }

-- the front of the first part
pub first_part : (first second : Option (List ℕ)) (one two : List ℕ) → AppendsFront first second one → AppendsFront first second (one ++ two)
first_part first second one two so_far =
    record { front = so_far.front; behind = so_far.behind ++ two; split = ap (λ (l : List ℕ). l ++ two) so_far.split ∙ append_assoc so_far.front so_far.behind two; appends = so_far.appends }

-- the first part, and a front of the second
pub second_part : (first second third : Option (List ℕ)) (one two : List ℕ) → Appends first second one → AppendsFront second third two → AppendsFront first third (one ++ two)
second_part first second third one two whole so_far =
    record {
      front = one ++ so_far.front;
      behind = so_far.behind;
      split = ap (λ (l : List ℕ). one ++ l) so_far.split ∙ sym (append_assoc one so_far.front so_far.behind);
      appends = appends_more first second third one so_far.front whole so_far.appends;
    }

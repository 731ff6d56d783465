-- Reports one after the other, up to one that fails.
use Rattle.std.proofs.Common.{◌≡◌, ℕ, ◌≤◌, List, [], ◌++◌, Option, sym, ap, ◌∙◌, arith, append_assoc, append-nil}
use Rattle.std.specs.Prelude.{Err, Ok, OnOk, Result, codes}
use Rattle.std.specs.Io.KnownBytes.{Appends}
use Rattle.std.proofs.KnownBytes.{Appends-trans}
use Rattle.ps_base.specs.Causes.{Rose}
use Rattle.ps_io.specs.World.{Reports, ReportsFront}
use Rattle.ps_io.specs.declared.world.World.{Ghosts}
use Rattle.ps_rehearse.specs.declared.numbers.Numbers.{Numbers}
use Rattle.ps_status.specs.Telling.{OnlyTells}
use Rattle.ps_serve.specs.Numbers.{number_line, numbers_report}
use Rattle.ps_status.proofs.Fronts.{front-more, front-then}

-- ---- the five lines

module _ (n : Numbers) where
  abbrev first : List ℕ
  first = number_line (codes "stanzas ") n.stanzas

  abbrev second : List ℕ
  second = number_line (codes "commits ") n.commits

  abbrev third : List ℕ
  third = number_line (codes "results ") n.results

  abbrev fourth : List ℕ
  fourth = number_line (codes "errors ") n.errors

  abbrev fifth : List ℕ
  fifth = number_line (codes "notices ") n.notices

  pub front-1 : (a b : Option (List ℕ)) → ReportsFront a b first → ReportsFront a b (numbers_report n)
  front-1 a b f = front-more a b first (second ++ (third ++ (fourth ++ fifth))) f

  pub front-2 : (a b c : Option (List ℕ)) → Appends a b first → ReportsFront b c second → ReportsFront a c (numbers_report n)
  front-2 a b c p f = front-then a b c first (second ++ (third ++ (fourth ++ fifth))) p (front-more b c second (third ++ (fourth ++ fifth)) f)

  pub front-3 : (a b c d : Option (List ℕ)) → Appends a b first → Appends b c second → ReportsFront c d third → ReportsFront a d (numbers_report n)
  front-3 a b c d p q f =
      front-then a b d first (second ++ (third ++ (fourth ++ fifth))) p
      (front-then b c d second (third ++ (fourth ++ fifth)) q (front-more c d third (fourth ++ fifth) f))

  pub front-4 : (a b c d e : Option (List ℕ)) → Appends a b first → Appends b c second → Appends c d third → ReportsFront d e fourth → ReportsFront a e (numbers_report n)
  front-4 a b c d e p q r f =
      front-then a b e first (second ++ (third ++ (fourth ++ fifth))) p
      (front-then b c e second (third ++ (fourth ++ fifth)) q (front-then c d e third (fourth ++ fifth) r (front-more d e fourth fifth f)))

  pub front-5 : (a b c d e f : Option (List ℕ)) → Appends a b first → Appends b c second → Appends c d third → Appends d e fourth → ReportsFront e f fifth → ReportsFront a f (numbers_report n)
  front-5 a b c d e f p q r s l =
      front-then a b f first (second ++ (third ++ (fourth ++ fifth))) p
      (front-then b c f second (third ++ (fourth ++ fifth)) q (front-then c d f third (fourth ++ fifth) r (front-then d e f fourth fifth s l)))

  all-5 : (a b c d e f : Option (List ℕ)) → Appends a b first → Appends b c second → Appends c d third → Appends d e fourth → Appends e f fifth → Appends a f (numbers_report n)
  all-5 a b c d e f p q r s l =
      Appends-trans a b f first (second ++ (third ++ (fourth ++ fifth))) p
      (Appends-trans b c f second (third ++ (fourth ++ fifth)) q (Appends-trans c d f third (fourth ++ fifth) r (Appends-trans d e f fourth fifth s l)))

  module _ {E : Type 0} where
    pub whole-last : (a b c d e f : Option (List ℕ)) (result : Result (Unit {0}) E) → Appends a b first → Appends b c second → Appends c d third → Appends d e fourth
        → Reports e f result fifth → OnOk result (Appends a f (numbers_report n))
    whole-last a b c d e f (Ok x) p q r s l = all-5 a b c d e f p q r s l
    whole-last a b c d e f (Err x) p q r s l = tt

    pub front-last : (a b c d e f : Option (List ℕ)) (result : Result (Unit {0}) E) → Appends a b first → Appends b c second → Appends c d third → Appends d e fourth
        → Reports e f result fifth → ReportsFront a f (numbers_report n)
    front-last a b c d e f (Ok x) p q r s l =
        front-5 a b c d e f p q r s (record { front = fifth; behind = []; split = sym (append-nil fifth); adds = l })
    front-last a b c d e f (Err x) p q r s l = front-5 a b c d e f p q r s l

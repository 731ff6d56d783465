-- What a resource wants, what is wanted of one name, and what is wanted on one host have one digest.
use Rattle.std.proofs.Common.{◌≡◌, ℕ, Bool, true, false, ◌&&◌, List, refl}
use Rattle.ps_types.specs.declared.jid.Jid.{Jid}
use Rattle.ps_rows.specs.declared.index.Index.TheVariants.{Key, Node, Bare}
use Rattle.ps_rows.specs.Digests.{jid_digest, text_digest}
use Rattle.ps_rows.specs.Standing.{AsksBy}
use Rattle.ps_rows.proofs.Sought.{one_jid, one_text}
use Rattle.ps_filter.specs.Keys.{want_by}
use Rattle.ps_filter.specs.Wants.{is_want, is_want_for, is_want_of, is_want_on}

first_part : (a b : Bool) → (a && b) ≡ true → a ≡ true
first_part true b h = refl
first_part false b h = h

pub of_resource : (who : Jid) → AsksBy (λ row. is_want_of who row) (λ seed. want_by seed Key) (λ seed. jid_digest seed who)
of_resource who seed = record { alike = λ row h. one_jid seed who row.who h }

pub of_want : (who : Jid) (name : List ℕ) → AsksBy (λ row. is_want who name row) (λ seed. want_by seed Key) (λ seed. jid_digest seed who)
of_want who name seed = record { alike = λ row h. one_jid seed who row.who (first_part (is_want_of who row) (is_want_for name row) h) }

pub for_name : (name : List ℕ) → AsksBy (λ row. is_want_for name row) (λ seed. want_by seed Node) (λ seed. text_digest seed name)
for_name name seed = record { alike = λ row h. one_text seed name row.name h }

pub on_host : (host : List ℕ) → AsksBy (λ row. is_want_on host row) (λ seed. want_by seed Bare) (λ seed. text_digest seed host)
on_host host seed = record { alike = λ row h. one_text seed host row.who.host h }

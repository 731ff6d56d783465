-- The addresses of a list of rows are added one row after the other.
use Rattle.std.proofs.Common.{◌≡◌, ℕ, ◌+◌, ◌<◌, ◌≤◌, Bool, true, false, cond, List, [], ◌∷◌, ◌++◌, map, take, length, get_or, Option, Some, None, refl, sym, ap, ◌∙◌, append_assoc}
use Rattle.std.specs.Prelude.{filter, option_to_list}
use Rattle.std.proofs.lemmas.List.{map-append, take_all, take_more}
use Rattle.std.proofs.lemmas.List.Elements.{filter-append}
use Rattle.ps_types.specs.Address.{bare}
use Rattle.ps_types.specs.Rosters.{is_contact_at}
use Rattle.ps_types.specs.declared.jid.Jid.{Jid}
use Rattle.ps_types.specs.Affils.{affils_of}
use Rattle.ps_types.specs.Subs.{subs_of}
use Rattle.ps_types.specs.declared.rows.AffilRow.{AffilRow}
use Rattle.ps_types.specs.declared.rows.NodeRow.{NodeRow}
use Rattle.ps_types.specs.declared.rows.RosterRow.{RosterRow}
use Rattle.ps_types.specs.declared.rows.SubRow.{SubRow}
use Rattle.ps_model.specs.Access.{account_of, is_account}
use Rattle.ps_model.specs.Book.{Book}
use Rattle.ps_rows.specs.Standing.{standing}
use Rattle.ps_audit_laws.specs.Readers.{known, own_account}
use Rattle.ps_audit.specs.Listed.{affil_whos, contact_whos, sub_whos}

-- what is told of a list is what is told of its parts
module _ {R : Type 0} (told : List R → List Jid) (splits : (xs ys : List R) → told (xs ++ ys) ≡ told xs ++ told ys) where
  pub one-more : (rows : List R) (i : ℕ) (x : R) (front now after : List Jid) → i < length rows → x ≡ get_or rows i x → now ≡ front ++ told (take i rows) → after ≡ now ++ told (x ∷ [])
      → after ≡ front ++ told (take (i + 1) rows)
  one-more rows i x front now after within is so_far more =
      let next : take (i + 1) rows ≡ take i rows ++ x ∷ [] = take_more rows i x within ∙ ap (λ (y : R). take i rows ++ y ∷ []) (sym is) in
      more ∙ ap (λ (js : List Jid). js ++ told (x ∷ [])) so_far ∙ append_assoc front (told (take i rows)) (told (x ∷ []))
      ∙ ap (λ (js : List Jid). front ++ js) (sym (splits (take i rows) (x ∷ [])) ∙ ap told (sym next))

  pub all-told : (rows : List R) (i : ℕ) (front now : List Jid) → length rows ≤ i → now ≡ front ++ told (take i rows) → now ≡ front ++ told rows
  all-told rows i front now all is = is ∙ ap (λ (rs : List R). front ++ told rs) (take_all i rows all)

pub affils-split : (xs ys : List AffilRow) → affil_whos (xs ++ ys) ≡ affil_whos xs ++ affil_whos ys
affils-split xs ys = map-append (λ (r : AffilRow). bare r.who) xs ys

pub subs-split : (xs ys : List SubRow) → sub_whos (xs ++ ys) ≡ sub_whos xs ++ sub_whos ys
subs-split xs ys = map-append (λ (r : SubRow). bare r.who) xs ys

-- ---- the places of a roster

abbrev pub slot_whos : Jid → List (Option RosterRow) → List Jid
slot_whos account slots = contact_whos account (standing slots)

standing-append : (xs ys : List (Option RosterRow)) → standing (xs ++ ys) ≡ standing xs ++ standing ys
standing-append [] ys = refl
standing-append (None ∷ xs) ys = standing-append xs ys
standing-append (Some r ∷ xs) ys = ap (λ (rs : List RosterRow). r ∷ rs) (standing-append xs ys)

pub slots-split : (account : Jid) (xs ys : List (Option RosterRow)) → slot_whos account (xs ++ ys) ≡ slot_whos account xs ++ slot_whos account ys
slots-split account xs ys =
    ap (contact_whos account) (standing-append xs ys)
    ∙ ap (map (λ (r : RosterRow). bare r.contact)) (filter-append (is_contact_at account) (standing xs) (standing ys))
    ∙ map-append (λ (r : RosterRow). bare r.contact) (filter (is_contact_at account) (standing xs)) (filter (is_contact_at account) (standing ys))

pub slot-one : (account : Jid) (s : Option RosterRow) → contact_whos account (option_to_list s) ≡ slot_whos account (s ∷ [])
slot-one account None = refl
slot-one account (Some r) = refl

-- ---- all who are known

pub own-some : (row : NodeRow) → is_account row.key.service ≡ true → own_account row ≡ row.key.service ∷ []
own-some row h = ap (λ (b : Bool). cond b (row.key.service ∷ []) []) h

pub own-none : (row : NodeRow) → is_account row.key.service ≡ false → own_account row ≡ []
own-none row h = ap (λ (b : Bool). cond b (row.key.service ∷ []) []) h

pub known-is : (book : Book) (row : NodeRow) (own one two all : List Jid) (rows : List AffilRow) (subs : List SubRow) (account : Jid) → own ≡ own_account row
    → rows ≡ affils_of row.key book.affils → subs ≡ subs_of row.key book.subs → account ≡ account_of row
    → one ≡ own ++ affil_whos rows → two ≡ one ++ sub_whos subs → all ≡ two ++ contact_whos account book.rosters → all ≡ known book row
known-is book row own one two all rows subs account o r s k e f g =
    let C = contact_whos account book.rosters in
    let step : all ≡ ((own ++ affil_whos rows) ++ sub_whos subs) ++ C = g ∙ ap (λ (js : List Jid). js ++ C) (f ∙ ap (λ (js : List Jid). js ++ sub_whos subs) e) in
    let turned : ((own ++ affil_whos rows) ++ sub_whos subs) ++ C ≡ own ++ (affil_whos rows ++ (sub_whos subs ++ C)) = append_assoc (own ++ affil_whos rows) (sub_whos subs) C
    ∙ append_assoc own (affil_whos rows) (sub_whos subs ++ C) in
    let parts : own ++ (affil_whos rows ++ (sub_whos subs ++ C)) ≡ known book row = (λ i. o i ++ (affil_whos (r i) ++ (sub_whos (s i) ++ contact_whos (k i) book.rosters))) in
    step ∙ turned ∙ parts

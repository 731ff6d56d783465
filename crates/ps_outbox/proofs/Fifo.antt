-- Each queue is first in, first out.
use Rattle.std.proofs.Common.{◌≡◌, ℕ, Bool, true, false, cond, List, [], ◌∷◌, ◌++◌, refl, ap, sym, ◌∙◌, true≢false, drop, filter}
use Rattle.ps_base.specs.Rows.{without_first}
use Rattle.ps_types.specs.declared.entry.Notice.{Notice}
use Rattle.ps_types.specs.declared.jid.Jid.{Jid}
use Rattle.ps_types.specs.Same.{same_bare}
use Rattle.ps_rows.proofs.Sought.{bare-back, bare-on}
use Rattle.ps_outbox.specs.Boxes.{is_to, queue}

front_by : (who : Jid) (n : Notice) (ns : List Notice) (b : Bool) → is_to who n ≡ b → queue who (without_first (is_to who) ns) ≡ drop 1 (queue who ns)
    → queue who (cond b ns (n ∷ without_first (is_to who) ns)) ≡ drop 1 (cond b (n ∷ queue who ns) (queue who ns))
front_by who n ns true e more = refl
front_by who n ns false e more = ap (λ c. cond c (n ∷ queue who (without_first (is_to who) ns)) (queue who (without_first (is_to who) ns))) e ∙ more

pub front_goes : (who : Jid) (waiting : List Notice) → queue who (without_first (is_to who) waiting) ≡ drop 1 (queue who waiting)
front_goes who [] = refl
front_goes who (n ∷ ns) = front_by who n ns (is_to who n) refl (front_goes who ns)

other_not : (who other : Jid) (n : Notice) (c : Bool) → is_to other n ≡ c → is_to who n ≡ true → same_bare who other ≡ false → c ≡ false
other_not who other n true e h f = absurd (true≢false (sym (bare-on who n.to other h (bare-back other n.to e)) ∙ f))
other_not who other n false e h f = refl

other_by : (who other : Jid) (n : Notice) (ns : List Notice) (b : Bool) → same_bare who other ≡ false → is_to who n ≡ b → queue other (without_first (is_to who) ns) ≡ queue other ns
    → queue other (cond b ns (n ∷ without_first (is_to who) ns)) ≡ queue other (n ∷ ns)
other_by who other n ns true f e more = sym (ap (λ c. cond c (n ∷ queue other ns) (queue other ns)) (other_not who other n (is_to other n) refl e f))
other_by who other n ns false f e more = ap (λ (l : List Notice). cond (is_to other n) (n ∷ l) l) more

pub others_stay : (who other : Jid) (waiting : List Notice) → same_bare who other ≡ false → queue other (without_first (is_to who) waiting) ≡ queue other waiting
others_stay who other [] f = refl
others_stay who other (n ∷ ns) f = other_by who other n ns (is_to who n) f refl (others_stay who other ns f)

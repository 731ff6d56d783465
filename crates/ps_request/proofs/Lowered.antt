-- What a text spells is an address, which its own print spells again.
use Rattle.std.proofs.Common.{◌≡◌, ℕ, ◌+◌, ◌<◌, ◌≤◌, Bool, true, false, cond, not, ◌&&◌, ◌||◌, List, [], ◌∷◌, length, map, refl, ap, ap₂, sym, subst, ◌∙◌, arith}
use Rattle.std.specs.Prelude.{nat_le, ◌==◌, if◌then◌else◌}
use Rattle.std.specs.List.{list_all}
use Rattle.std.proofs.lemmas.Bool.{and_parts}
use Rattle.std.proofs.lemmas.Bool.Decides.{nat_tests}
use Rattle.std.proofs.lemmas.List.{length-map}
use Rattle.ps_types.specs.declared.jid.Jid.{Jid}
use Rattle.ps_types.specs.Address.{is_upper, lower, is_local, is_label, is_resource, Parts, AreParts, IsHost, IsAddress, Spells, address_of, parts_of, jid_text, bare}
use Rattle.ps_types.specs.Cutting.{are_labels}
use Rattle.ps_types.proofs.AddressLaws.{host-is, host-again, text-spells}

-- ---- bytes

low-local : (x : ℕ) → is_local x ≡ true → is_local (lower x) ≡ true
low-local x h = by (is_upper x) refl
  where
    by : (b : Bool) → is_upper x ≡ b → is_local (cond b (x + 32) x) ≡ true
    by true e = grind (arith, nat_tests)
    by false e = h

low-low : (x : ℕ) → lower (lower x) ≡ lower x
low-low x = by (is_upper x) refl
  where
    by : (b : Bool) → is_upper x ≡ b → lower (cond b (x + 32) x) ≡ cond b (x + 32) x
    by true e = grind (arith, nat_tests)
    by false e = rw e refl

low-label : (x : ℕ) → is_label (lower x) ≡ is_label x
low-label x = by (is_upper x) refl
  where
    by : (b : Bool) → is_upper x ≡ b → is_label (cond b (x + 32) x) ≡ is_label x
    by true e = grind (arith, nat_tests)
    by false e = refl

low-dot : (x : ℕ) → (lower x == 46) ≡ (x == 46)
low-dot x = by (is_upper x) refl
  where
    by : (b : Bool) → is_upper x ≡ b → (cond b (x + 32) x == 46) ≡ (x == 46)
    by true e = grind (arith, nat_tests)
    by false e = refl

-- ---- texts

low-all : (xs : List ℕ) → list_all is_local xs ≡ true → list_all is_local (map lower xs) ≡ true
low-all [] h = refl
low-all (x ∷ xs) h = let both = and_parts (is_local x) (list_all is_local xs) h in rw (low-local x both.0) (low-all xs both.1)

low-twice : (xs : List ℕ) → map lower (map lower xs) ≡ map lower xs
low-twice [] = refl
low-twice (x ∷ xs) = ap₂ (λ (y : ℕ) (ys : List ℕ). y ∷ ys) (low-low x) (low-twice xs)

low-labels : (begun : Bool) (xs : List ℕ) → are_labels begun (map lower xs) ≡ are_labels begun xs
low-labels begun [] = refl
low-labels begun (x ∷ xs) = rw (low-dot x, low-label x, low-labels false xs, low-labels true xs) refl

-- ---- addresses

parts-low : (p : Parts) → AreParts p → AreParts (parts_of (address_of p))
parts-low p are = record {
  local = low-all p.local are.local;
  host = host-is (map lower p.host) (low-labels false p.host ∙ host-again p.host are.host);
  resource = are.resource;
  short = rw (length-map p.local lower, length-map p.host lower) are.short;
}

-- what is spelled is an address
pub spelled-address : (text : List ℕ) (j : Jid) → Spells text j → IsAddress j
spelled-address text j s =
    let p = s.0 in
    subst IsAddress (sym s.3) (record { parts = parts-low p s.1; local = low-twice p.local; host = low-twice p.host })

-- and its print spells it
pub print-spells : (text : List ℕ) (j : Jid) → Spells text j → Spells (jid_text j) j
print-spells text j s = text-spells j (spelled-address text j s)

first-two : (a b c : Bool) → (a && b && c) ≡ true → (a && b && true) ≡ true
first-two true true c h = refl
first-two true false c h = absurd (cc)
first-two false b c h = absurd (cc)

-- without its resource it is an address too
pub bare-address : (j : Jid) → IsAddress j → IsAddress (bare j)
bare-address j a = record {
  parts = record {
    local = a.parts.local;
    host = a.parts.host;
    resource = refl;
    short = first-two (nat_le (length j.local) 1023) (nat_le (length j.host) 1023) (nat_le (length j.resource) 1023) a.parts.short;
  };
  local = a.local;
  host = a.host;
}

-- What holds of a value that may be absent.
use Rattle.std.specs.Prelude.{◌≡◌, Bool, true, false, cond, Option, Some, None, option_map, option_and_then, refl, ⊤}

abbrev pub When : {A : Type 0} → (A → Type 0) → Option A → Type 0
When P None = ⊤
When P (Some a) = P a

pub whichever : {A : Type 0} (P : A → Type 0) (b : Bool) (x y : Option A) → (b ≡ true → When P x) → (b ≡ false → When P y) → When P (cond b x y)
whichever P true x y f g = f refl
whichever P false x y f g = g refl

pub then-when : {A B : Type 0} (P : A → Type 0) (Q : B → Type 0) (f : A → Option B) (o : Option A) → When P o → ((a : A) → P a → When Q (f a)) → When Q (option_and_then f o)
then-when P Q f None h k = tt
then-when P Q f (Some a) h k = k a h

pub map-when : {A B : Type 0} (P : A → Type 0) (Q : B → Type 0) (f : A → B) (o : Option A) → When P o → ((a : A) → P a → Q (f a)) → When Q (option_map f o)
map-when P Q f None h k = tt
map-when P Q f (Some a) h k = k a h

-- Lists, options and tests of any kind.
use Rattle.std.proofs.Common.{arith, ◌≡◌, Bool, true, false, cond, List, [], ◌∷◌, map, refl, ap₂, ◌∙◌, Option, Some, None, IfSome, option_map}
use Rattle.std.specs.List.{AllByRecursion, AllZip, list_all, list_any}
use Rattle.std.proofs.lemmas.List.Folds.{list_all-map}
use Rattle.std.proofs.lemmas.Simd.{map-map}
use Rattle.std.proofs.lemmas.Bool.{and_parts, or_from}

-- a function goes into both branches of a test
pub cond-map : {A B : Type 0} (f : A → B) {b c : Bool} (x y : A) {u v : B} → b ≡ c → u ≡ f x → v ≡ f y →
    cond b u v ≡ f (cond c x y)
cond-map f {c = c} x y e p q = grind arith

-- two maps, one after the other
pub map-then : {X Y Z : Type 0} (g : Y → Z) (f : X → Y) (h : X → Z) → ((x : X) → g (f x) ≡ h x) →
    (xs : List X) → map g (map f xs) ≡ map h xs
map-then g f h e xs = map-map g f xs ∙ (λ i. map (λ x. e x i) xs)

pub option_map-then : {X Y Z : Type 0} (g : Y → Z) (f : X → Y) (h : X → Z) → ((x : X) → g (f x) ≡ h x) →
    (o : Option X) → option_map g (option_map f o) ≡ option_map h o
option_map-then g f h e None = refl
option_map-then g f h e (Some x) = λ i. Some (e x i)

-- a test after a map
pub list_all-mapped : {X Y : Type 0} (test : Y → Bool) (f : X → Y) (own : X → Bool) →
    ((x : X) → test (f x) ≡ own x) → (xs : List X) → list_all test (map f xs) ≡ list_all own xs
list_all-mapped test f own e xs = grind (arith, list_all-map)

-- where each item passes one test, and such items fail another, none passes that
pub none_passes : {X : Type 0} (f g : X → Bool) → ((x : X) → f x ≡ true → g x ≡ false) → (xs : List X) →
    list_all f xs ≡ true → list_any g xs ≡ false
none_passes f g e [] h = refl
none_passes f g e (x ∷ xs) h =
    let parts = and_parts _ _ h in or_from _ _ (e x parts.0) (none_passes f g e xs parts.1)

-- what holds of each item holds of each item of the map
pub all_mapped : {X Y : Type 0} (P : X → Type 0) (Q : Y → Type 0) (f : X → Y) → ((x : X) → P x → Q (f x)) →
    (xs : List X) → AllByRecursion P xs → AllByRecursion Q (map f xs)
all_mapped P Q f g [] h = tt
all_mapped P Q f g (x ∷ xs) h = (g x h.0, all_mapped P Q f g xs h.1)

pub all_of : {X : Type 0} (P : X → Type 0) → ((x : X) → P x) → (xs : List X) → AllByRecursion P xs
all_of P f [] = tt
all_of P f (x ∷ xs) = (f x, all_of P f xs)

pub map-same : {X Y : Type 0} (f g : X → Y) (xs : List X) → AllByRecursion (λ x. f x ≡ g x) xs →
    map f xs ≡ map g xs
map-same f g [] h = refl
map-same f g (x ∷ xs) h = ap₂ ◌∷◌ h.0 (map-same f g xs h.1)

pub some_mapped : {X Y : Type 0} (P : X → Type 0) (Q : Y → Type 0) (f : X → Y) → ((x : X) → P x → Q (f x)) →
    (o : Option X) → IfSome o P → IfSome (option_map f o) Q
some_mapped P Q f g None h = tt
some_mapped P Q f g (Some x) h = g x h

-- lists place by place

pub all_zip : {X Y : Type 0} (R : X → Y → Type 0) (P : X → Type 0) (Q : Y → Type 0) →
    ((x : X) (y : Y) → R x y → P x → Q y) → (xs : List X) (ys : List Y) → AllZip R xs ys →
    AllByRecursion P xs → AllByRecursion Q ys
all_zip R P Q f [] [] z h = tt
all_zip R P Q f (x ∷ xs) (y ∷ ys) z h = (f x y z.0 h.0, all_zip R P Q f xs ys z.1 h.1)
all_zip R P Q f _ _ z h = absurd z

pub map-zip : {X Y Z : Type 0} (R : X → Y → Type 0) (f : X → Z) (g : Y → Z) →
    ((x : X) (y : Y) → R x y → f x ≡ g y) → (xs : List X) (ys : List Y) → AllZip R xs ys → map f xs ≡ map g ys
map-zip R f g e [] [] z = refl
map-zip R f g e (x ∷ xs) (y ∷ ys) z = ap₂ ◌∷◌ (e x y z.0) (map-zip R f g e xs ys z.1)
map-zip R f g e _ _ z = absurd z

pub zip_weaker : {X Y : Type 0} (R S : X → Y → Type 0) → ((x : X) (y : Y) → R x y → S x y) →
    (xs : List X) (ys : List Y) → AllZip R xs ys → AllZip S xs ys
zip_weaker R S f [] [] z = tt
zip_weaker R S f (x ∷ xs) (y ∷ ys) z = (f x y z.0, zip_weaker R S f xs ys z.1)
zip_weaker R S f _ _ z = absurd z

pub zip_map : {X Y : Type 0} (R : X → Y → Type 0) (P : X → Type 0) (f : X → Y) → ((x : X) → P x → R x (f x)) →
    (xs : List X) → AllByRecursion P xs → AllZip R xs (map f xs)
zip_map R P f g [] h = tt
zip_map R P f g (x ∷ xs) h = (g x h.0, zip_map R P f g xs h.1)

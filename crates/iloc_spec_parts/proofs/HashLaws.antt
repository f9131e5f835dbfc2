-- What values feed a hasher: values that tie feed it alike, and what is fed tells them apart.
use Rattle.std.proofs.Common.{ℕ, length, false, replicate, Option, append_assoc, length-append, if◌then◌else◌, ◌≡◌, zero, suc, ◌^◌, ◌<◌, List, ◌++◌, refl, Bool, true, Some, None, arith, ◌≤◌, ◌-◌, [], ◌∷◌, sym, ap, ◌∙◌, ◌↔◌, ◌+◌}
use Rattle.std.specs.Prelude.{nat_lt}
use Rattle.std.specs.List.{list_all, flat_map}
use Rattle.std.proofs.lemmas.List.{length-replicate}
use Rattle.std.proofs.lemmas.Bool.Decides.{nat_tests}
use Rattle.std.proofs.lemmas.Nat.{from_le_bytes-to_le_bytes_8}
use Rattle.std.specs.Hash.{HashWrites, u8, slice, option, le_bytes}
use Rattle.std.specs.declared.cmp.Ordering.{Ordering}
use Rattle.std.proofs.lemmas.Bool.{and_parts}
use Rattle.iloc_spec_grammar.specs.Syntax.{Block, Text, Identifier, Fields, Unicode, Transform, before_zero}
use Rattle.iloc_spec_grammar.specs.Meaning.{Extensions}
use Rattle.iloc_spec_parts.specs.Orders.{IsExactOrder}
use Rattle.iloc_spec_parts.specs.Hashes.{HashesByOrder, is_short_text, word_fed, words_fed, identifier_fed, fields_fed, unicode_fed, transform_fed, other_fed, extensions_fed, locale_fed}
use Rattle.iloc_spec_parts.specs.Subdivisions.{Subdivision}
use Rattle.iloc_spec_parts.specs.DataLocales.{DataLocale, DataKey, data_key}
use Rattle.iloc_spec_parts.specs.DataOrders.{subdivision_cmp}
use Rattle.iloc_spec_parts.specs.DataHashes.{subdivision_fed, data_key_fed, data_locale_fed}
use Rattle.iloc_spec_parts.proofs.DataOrderLaws.{subdivision_exact}

-- Values that tie feed a hasher alike, and what is fed tells them apart: each part tells its value, and where
-- it ends.

-- A value that makes fewer writes than 2 ^ 64 is told by them, whatever follows, and so is what follows
pub record Tells {X : Type 0} (fed : X → HashWrites) : Type 0 where
  pub some : (x : X) → 0 < length (fed x)
  pub told : (x y : X) (us vs : HashWrites) → length (fed x) < 2 ^ 64 → length (fed y) < 2 ^ 64 →
      fed x ++ us ≡ fed y ++ vs → (x ≡ y) × (us ≡ vs)

-- a word

abbrev padded : Text → Text
padded w = w ++ replicate (8 - length w) 0

abbrev fed_as : Bool → Text → HashWrites
fed_as b w = if b then padded w ∷ [] else u8 255 ++ (w ∷ [])

padded_long : (w : Text) → is_short_text w ≡ true → length (padded w) ≡ 8
padded_long w h = grind (arith, nat_tests, length-append, length-replicate)

before_zeros : (n : ℕ) → before_zero (replicate n 0) ≡ []
before_zeros zero = refl
before_zeros (suc n) = refl

before_padding : (w : Text) (n : ℕ) → list_all (λ b. nat_lt 0 b) w ≡ true →
    before_zero (w ++ replicate n 0) ≡ w
before_padding [] n h = before_zeros n
before_padding (c ∷ w) n h =
    grind (
      arith,
      and_parts,
      nat_tests,
      before_padding w n (and_parts (nat_lt 0 c) (list_all (λ b. nat_lt 0 b) w) h).1,
    )

padded_back : (w : Text) → is_short_text w ≡ true → before_zero (padded w) ≡ w
padded_back w h = grind (arith, before_padding, and_parts)

fed_told : (a b : Bool) (v w : Text) (us vs : HashWrites) → is_short_text v ≡ a → is_short_text w ≡ b →
    fed_as a v ++ us ≡ fed_as b w ++ vs → (v ≡ w) × (us ≡ vs)
fed_told true true v w us vs h k e =
    let p : padded v ≡ padded w = cc in
    let r : us ≡ vs = cc in (sym (padded_back v h) ∙ ap before_zero p ∙ padded_back w k, r)
fed_told true false v w us vs h k e =
    let p : padded v ≡ 255 ∷ [] = cc in absurd (omega (arith, padded_long v h, ap length p))
fed_told false true v w us vs h k e =
    let p : padded w ≡ 255 ∷ [] = cc in absurd (omega (arith, padded_long w k, ap length p))
fed_told false false v w us vs h k e = (cc, cc)

fed_some : (b : Bool) (w : Text) → 0 < length (fed_as b w)
fed_some true w = omega arith
fed_some false w = omega arith

fed_few : (b : Bool) (w : Text) → length (fed_as b w) ≤ 2
fed_few true w = omega arith
fed_few false w = omega arith

pub word_few : (w : Text) → length (word_fed w) ≤ 2
word_few w = fed_few (is_short_text w) w

pub word_tells : Tells word_fed
word_tells = search (fed_some, fed_told)

byte_tells : Tells u8
byte_tells = grind arith

-- one part after another

module _ {X Y : Type 0} {f : X → HashWrites} {g : Y → HashWrites} (a : Tells f) (b : Tells g) where
  pub both_tell : Tells (λ (p : X × Y). f p.0 ++ g p.1)
  both_tell = grind (arith, length-append, append_assoc)

-- a value that is kept as another
pub through : {X Y : Type 0} (to : X → Y) (from : Y → X) → ((x : X) → from (to x) ≡ x) →
    {f : Y → HashWrites} → Tells f → Tells (λ x. f (to x))
through to from back a = grind arith

-- an optional part

length_told : (m n : ℕ) → m < 2 ^ 64 → n < 2 ^ 64 → le_bytes 8 m ≡ le_bytes 8 n → m ≡ n
unfolding le_bytes
length_told m n h k e = grind (arith, from_le_bytes-to_le_bytes_8)

module _ {X : Type 0} {f : X → HashWrites} (a : Tells f) where
  pub option_tells : Tells (option f)
  unfolding le_bytes
  option_tells = grind arith

  -- a list

  each_long : (xs : List X) → length xs ≤ length (flat_map f xs)
  each_long [] = omega arith
  each_long (x ∷ xs) = grind (arith, length-append, each_long xs)

  each_told : (xs ys : List X) (us vs : HashWrites) → length xs ≡ length ys →
      length (flat_map f xs) < 2 ^ 64 → length (flat_map f ys) < 2 ^ 64 →
      flat_map f xs ++ us ≡ flat_map f ys ++ vs → (xs ≡ ys) × (us ≡ vs)
  each_told [] [] us vs l h k e = (refl, e)
  each_told [] (y ∷ ys) us vs l h k e = absurd (omega arith)
  each_told (x ∷ xs) [] us vs l h k e = absurd (omega arith)
  each_told (x ∷ xs) (y ∷ ys) us vs l h k e =
      let m = length-append (f x) (flat_map f xs) in
      let n = length-append (f y) (flat_map f ys) in
      let first = a.told x y (flat_map f xs ++ us) (flat_map f ys ++ vs) (omega arith) (omega arith)
      (grind (arith, append_assoc)) in
      search (each_told xs ys us vs (omega arith) (omega arith) (omega arith) first.1)

  pub list_tells : Tells (slice f)
  list_tells = grind (arith, each_long, length_told, each_told)

-- the parts of a locale

pub words_tell : Tells words_fed
words_tell = list_tells word_tells

pub identifier_tells : Tells identifier_fed
identifier_tells = through {Y = ((Text × Option Text) × Option Text) × List Text}
    (λ i. (((i.language, i.script), i.region), i.variants))
    (λ p. record { language = p.0.0.0; script = p.0.0.1; region = p.0.1; variants = p.1 })
    (λ i. refl)
    (both_tell (both_tell (both_tell word_tells (option_tells word_tells)) (option_tells word_tells))
    words_tell)

pub fields_tell : Tells fields_fed
fields_tell = list_tells (both_tell word_tells words_tell)

pub unicode_tells : Tells unicode_fed
unicode_tells = through {Y = Fields × List Text} (λ u. (u.keywords, u.attributes))
    (λ p. record { attributes = p.1; keywords = p.0 }) (λ u. refl) (both_tell fields_tell words_tell)

pub transform_tells : Tells transform_fed
transform_tells =
    through {Y = Option Identifier × Fields} (λ m. (m.id, m.fields)) (λ p. record { id = p.0; fields = p.1 })
    (λ m. refl) (both_tell (option_tells identifier_tells) fields_tell)

pub other_tells : Tells other_fed
other_tells = both_tell byte_tells words_tell

pub extensions_tell : Tells extensions_fed
extensions_tell = through {Y = ((Unicode × Transform) × List Text) × List Block}
    (λ e. (((e.unicode, e.transform), e.private), e.others))
    (λ p. record { unicode = p.0.0.0; transform = p.0.0.1; private = p.0.1; others = p.1 })
    (λ e. refl)
    (both_tell (both_tell (both_tell unicode_tells transform_tells) words_tell) (list_tells other_tells))

pub locale_tells : Tells locale_fed
locale_tells = through {Y = Identifier × Extensions} (λ M. (M.id, M.extensions))
    (λ p. record { id = p.0; extensions = p.1 })
    (λ M. refl)
    (both_tell identifier_tells extensions_tell)

-- by an order that ties equal values alone

pub hashes_by : {X : Type 0} {R : X → X → Ordering} {fed : X → HashWrites} → IsExactOrder R → Tells fed →
    HashesByOrder R fed
hashes_by {X} {R} {fed} o a = record {
  alike = λ x y e. ap fed ((o.exact x y).0 e);
  told_apart = λ x y h e.
      (o.exact x y).1 (a.told x y [] [] h (rw e at h) (ap (λ ws. ws ++ []) e)).0;
}

pub ruleset told_parts = (
  word_tells,
  words_tell,
  identifier_tells,
  fields_tell,
  unicode_tells,
  transform_tells,
  other_tells,
  extensions_tell,
  locale_tells,
)

-- Subdivisions and data locales are told by what they feed a hasher.

subdivision_tells : Tells subdivision_fed
subdivision_tells = through {Y = Text × Text} (λ s. (s.region, s.suffix))
    (λ p. record { region = p.0; suffix = p.1 }) (λ s. refl) (both_tell word_tells word_tells)

key_tells : Tells data_key_fed
key_tells = through {Y = ((Text × Option Text) × Option Subdivision) × Option Text}
    (λ k. (((k.language, k.script), k.region), k.variant))
    (λ p. record { language = p.0.0.0; script = p.0.0.1; region = p.0.1; variant = p.1 })
    (λ k. refl)
    (both_tell (both_tell (both_tell word_tells (option_tells word_tells)) (option_tells subdivision_tells))
    (option_tells word_tells))

pub subdivision_hashes : HashesByOrder subdivision_cmp subdivision_fed
subdivision_hashes = hashes_by subdivision_exact subdivision_tells

-- a key makes few writes

optional_few : {X : Type 0} (f : X → HashWrites) (n : ℕ) → ((x : X) → length (f x) ≤ n) → (o : Option X) →
    length (option f o) ≤ n + 1
optional_few f n h None = omega arith
optional_few f n h (Some x) = let l = h x in omega arith

subdivision_few : (s : Subdivision) → length (subdivision_fed s) ≤ 4
subdivision_few s = grind (arith, word_few, length-append)

key_few : (k : DataKey) → length (data_key_fed k) < 2 ^ 64
key_few k = grind (arith, optional_few, word_few, subdivision_few, length-append)

pub data_locale_hashes : (d e : DataLocale) →
    (data_locale_fed d ≡ data_locale_fed e) ↔ (data_key d ≡ data_key e)
data_locale_hashes d e = (
  (λ h. (key_tells.told (data_key d) (data_key e) [] [] (key_few (data_key d)) (key_few (data_key e))
      (ap (λ ws. ws ++ []) h)).0),
  (λ h. ap data_key_fed h),
)

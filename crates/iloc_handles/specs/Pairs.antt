-- Maps of a locale from keys to values: what each is, and what setting and removing a key does.
use Rattle.std.specs.Prelude.{◌≡◌, ◌⊎◌, ℕ, true, false, not, List, filter, slice_get, Option, None, is_some}
use Rattle.std.specs.Prelude.{option_map, Result, Ok, Err, if◌then◌else◌}
use Rattle.std.specs.FinMap.{find, put}
use Rattle.iloc_spec_grammar.specs.Syntax.{Text, Kind, IsWord, is_same, is_word, normal, word_cmp}
use Rattle.iloc_spec_grammar.specs.Meaning as meaning
use Rattle.iloc_spec_grammar.specs.Meaning.{Fault, InvalidExtension}
use Rattle.iloc_handles.specs.Finding.{Changing, Sets, Removes}

-- a map of a locale, and how its values are parsed
pub record Map (V : Type 0) : Type 1 where
  -- its pairs, by ascending key
  pub pairs : meaning.Locale → List (Text × V)
  -- the locale with other pairs, and all else the same
  pub with_pairs : List (Text × V) → meaning.Locale → meaning.Locale
  -- the value that a text is, or why it is none
  pub value : Text → Result V Fault
  -- memory may be wanted to parse the value
  pub ValueWants : Text → Type 0
  -- memory may be wanted to set the value of a key
  pub KeyWants : Text → List (Text × V) → Type 0

-- the key at an index
abbrev pub key_at : {V : Type 0} → ℕ → List (Text × V) → Option Text
key_at i pairs = option_map (λ (key, _). key) (slice_get pairs i)

-- the value at an index
abbrev pub value_at : {V : Type 0} → ℕ → List (Text × V) → Option V
value_at i pairs = option_map (λ (_, value). value) (slice_get pairs i)

-- the value of the key that is the text: none if the text is no key
abbrev pub value_of_key : {V : Type 0} → Kind → Text → List (Text × V) → Option V
value_of_key kind k pairs = if is_word kind k then find word_cmp (normal kind k) pairs else None

-- the text is a key that has a value
abbrev pub HasKey : {V : Type 0} → Kind → Text → List (Text × V) → Type 0
HasKey kind k pairs = IsWord kind k × (is_some (find word_cmp (normal kind k) pairs) ≡ true)

-- all but the pair with this key
abbrev pub without_key : {V : Type 0} → Text → List (Text × V) → List (Text × V)
without_key k pairs = filter (λ (key, _). not (is_same k key)) pairs

-- the key is given the value in the map; or memory was wanted, and nothing changed
abbrev pub HasSet : {V X E : Type 0} → Map V → Text → V → meaning.Locale → meaning.Locale
    → Result X E → Type 0
HasSet map k v before after (Ok _) =
    after ≡ map.with_pairs (put word_cmp k v (map.pairs before)) before
HasSet map k v before after (Err _) = (after ≡ before) × map.KeyWants k (map.pairs before)

-- why a key and a value are refused: the key is none, or else the value is none
abbrev pub PairFault : {V : Type 0} → Kind → Map V → Text → Text → Fault → Type 0
PairFault kind map k v fault = ((is_word kind k ≡ false) × (fault ≡ InvalidExtension))
    ⊎ (IsWord kind k × (map.value v ≡ Err fault))

-- the key has the value
abbrev pub SetsPair : {V : Type 0} → Kind → Map V → Text → Text → Changing
SetsPair {V} kind map k v before after status = Sets
    (λ before after. (value : V) × IsWord kind k × (map.value v ≡ Ok value)
    × (after ≡ map.with_pairs (put word_cmp (normal kind k) value (map.pairs before)) before))
    (PairFault kind map k v) (map.ValueWants v ⊎ map.KeyWants (normal kind k) (map.pairs before))
    before after status

-- the key that is the text has no value any more
abbrev pub RemovesPair : {V : Type 0} → Kind → Map V → Text → Changing
RemovesPair kind map k = Removes (λ M. HasKey kind k (map.pairs M))
    (λ M. map.with_pairs (without_key (normal kind k) (map.pairs M)) M)

-- Blocks that break their rule before anything is kept of them.
use Rattle.std.proofs.Common.{◌≡◌, ℕ, Bool, true, false, List, [], ◌∷◌, refl, sym, ap, arith, true≢false}
use Rattle.std.specs.List.{AllByRecursion}
use Rattle.std.proofs.lemmas.Bool.{and_parts, false_from_ne_true, not-true}
use Rattle.iloc_spec_grammar.specs.Syntax.{LanguageLengths, Block, code_u, code_t, Text, Language, UnicodeKey, TransformKey, Attribute, is_word, IsWord, kept, lower_singleton, is_other_singleton, first_piece}
use Rattle.iloc_spec_grammar.specs.Reading.{is_two, rest_of}
use Rattle.iloc_spec_grammar.proofs.Readings.{language_no_key, not_two}
use Rattle.iloc_spec_grammar.proofs.Singletons.{no_u, no_t, no_x}
use Rattle.iloc_spec_parts.specs.Fronts.{is_bad_key, has_other_length, other_front, keywords_kept}
use Rattle.iloc_spec_parts.specs.Inline.{IsShortUnicode, IsShortTransform, IsShortOther, IsShortBlock}

-- after `u`

pub two_no_attribute : (p : Text) → is_two p ≡ true → is_word Attribute p ≡ false
two_no_attribute p two = grind (arith, false_from_ne_true, not_two)

none_kept : (p : Text) (qs : List Text) → is_two p ≡ true → is_word UnicodeKey p ≡ false →
    keywords_kept (p ∷ qs) ≡ []
none_kept p qs two bad = rw two (rw two (rw bad refl))

short_at : (p : Text) (qs : List Text) → is_two p ≡ true → is_word UnicodeKey p ≡ false →
    IsShortUnicode (p ∷ qs)
short_at p qs two bad = grind (arith, two_no_attribute, none_kept)

pub bad_unicode : (ps : List Text) → is_bad_key (first_piece ps) ≡ true → IsShortUnicode ps
bad_unicode [] h = absurd (true≢false (sym h))
bad_unicode (p ∷ ps) h = let parts = and_parts _ _ h in short_at p ps parts.0 (not-true _ parts.1)

-- after `t`

key_is_no_language : (T : LanguageLengths) (k : Text) → IsWord TransformKey k → is_word (Language T) k ≡ false
key_is_no_language T k key = grind (arith, false_from_ne_true, language_no_key)

pub bad_transform : {T : ℕ → Bool} (ps : List Text) → IsWord TransformKey (first_piece ps) →
    is_word Attribute (first_piece (rest_of ps)) ≡ false → IsShortTransform T ps
bad_transform {T = T} ps key none = grind (arith, key_is_no_language, true≢false)

-- after another singleton

all_pass : (ps : List Text) → AllByRecursion (λ p. has_other_length p ≡ true) ps → other_front ps ≡ ps
all_pass [] h = refl
all_pass (p ∷ ps) h = rw h.0 (ap (λ l. p ∷ l) (all_pass ps h.1))

pub bad_other : (ps : List Text) → kept (other_front ps) ≡ [] → IsShortOther ps
bad_other ps none = grind (arith, all_pass)

-- the blocks

module _ {T : ℕ → Bool} (b : Block) where
  pub broken_unicode : lower_singleton b ≡ code_u → is_bad_key (first_piece b.1) ≡ true → IsShortBlock T b
  broken_unicode e h = record {
    unicode = λ s. bad_unicode b.1 h;
    transform = λ s. absurd (omega arith);
    private = λ s. absurd (omega arith);
    other = λ o. absurd (no_u _ e o);
  }

  pub broken_transform : lower_singleton b ≡ code_t → IsWord TransformKey (first_piece b.1) →
      is_word Attribute (first_piece (rest_of b.1)) ≡ false → IsShortBlock T b
  broken_transform e key none = grind (arith, bad_transform, no_t)

  pub broken_other : is_other_singleton (lower_singleton b) ≡ true → kept (other_front b.1) ≡ [] →
      IsShortBlock T b
  broken_other o none = record {
    unicode = λ s. absurd (no_u _ s o);
    transform = λ s. absurd (no_t _ s o);
    private = λ s. absurd (no_x _ s o);
    other = λ _. bad_other b.1 none;
  }

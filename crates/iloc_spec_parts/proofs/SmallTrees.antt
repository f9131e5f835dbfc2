-- Small texts by the trees that they spell.
use Rattle.std.proofs.Common.{◌≡◌, ◌≢◌, ℕ, ◌≤◌, Bool, false, ◌==◌, List, [], ◌∷◌, ◌++◌, length, map, flat_map, refl, sym, ap, ◌∙◌, arith, Option, Some, None, IfSome, option_map, append-nil}
use Rattle.std.specs.List.{AllByRecursion}
use Rattle.std.proofs.lemmas.Bool.{ne_eqb, both_ways}
use Rattle.iloc_spec_grammar.specs.Syntax.{LanguageLengths, code_x, Text, pieces, UnicodeKey, IsWord, SpelledIdentifier, HasWords, head, tail_blocks, blocks, lower_singleton}
use Rattle.iloc_spec_grammar.specs.Tree.{Extension, unicode, Written, IsWritten, spelling, block_pieces, extension_block}
use Rattle.iloc_spec_grammar.specs.Meaning.{normal_values}
use Rattle.iloc_spec_grammar.proofs.FaultLaws.{head-and-blocks}
use Rattle.iloc_spec_grammar.proofs.PiecesLaws.{pieces_nonempty}
use Rattle.iloc_spec_grammar.proofs.Readings.{IsLong, long_attribute, after_language, long_after_language, blocks_past, head-spelling, blocks_spelled}
use Rattle.iloc_spec_grammar.proofs.WordsLaws.{length-unicode_key}
use Rattle.iloc_spec_grammar.proofs.ValuesLaws.{all_weaker}
use Rattle.iloc_spec_parts.specs.Small.{SmallLocale, IsSmall}
use Rattle.iloc_spec_parts.specs.SmallComputing.{small_identifier}
use Rattle.iloc_spec_parts.proofs.SmallShapes.{WrittenKeyword, small_keyword, keyword_blocks, IsSmallKeyword, small_identifier_of, one_variant, small_identifier_is, keyword_spelled, small_by_keyword}

-- no extension, or one keyword after its singleton
abbrev pub keyword_extension : Option WrittenKeyword → List (ℕ × Extension)
keyword_extension None = []
keyword_extension (Some k) =
    (k.byte, unicode (record { attributes = []; keywords = (k.key, k.values) ∷ [] })) ∷ []

-- what is written: the identifier, and perhaps a block of `u`
abbrev pub small_written : SpelledIdentifier → Option WrittenKeyword → Written
small_written i k = record { id = i; extensions = keyword_extension k; private = None }

-- The text is an identifier with at most one variant, and perhaps one keyword with at most one value
-- besides `true`.
pub record IsTreeSmall (T : LanguageLengths) (t : Text) (r : SmallLocale) : Type 0 where
  pub id : SpelledIdentifier
  pub keyword : Option WrittenKeyword
  pub grammatical : IsWritten T (small_written id keyword)
  pub spelled : pieces t ≡ spelling (small_written id keyword)
  pub one_variant : length id.variants ≤ 1
  pub one_value : IfSome keyword (λ k. length (normal_values k.values) ≤ 1)
  pub means : r ≡ record { id = small_identifier id; keyword = option_map small_keyword keyword }

-- the blocks of such a tree

extension_is : (k : Option WrittenKeyword) → map extension_block (keyword_extension k) ≡ keyword_blocks k
extension_is None = refl
extension_is (Some k) = simp append-nil

pub long_key : (p : Text) → IsWord UnicodeKey p → IsLong p
long_key p h = simp (ne_eqb, length-unicode_key)

long_blocks : (k : Option WrittenKeyword) → IfSome k IsSmallKeyword →
    AllByRecursion (λ b. ((lower_singleton b == code_x) ≡ false) × AllByRecursion IsLong b.1)
    (keyword_blocks k)
long_blocks None g = tt
long_blocks (Some k) g = grind (arith, long_key, all_weaker, long_attribute)

small_blocks : {T : ℕ → Bool} (i : SpelledIdentifier) → HasWords T i → (k : Option WrittenKeyword) →
    IfSome k IsSmallKeyword → tail_blocks (spelling (small_written i k)) ≡ keyword_blocks k
small_blocks i w k g =
    blocks_past (after_language i) _ (long_after_language i w)
    ∙ ap (λ bs. blocks (flat_map block_pieces (bs ++ []))) (extension_is k)
    ∙ blocks_spelled (keyword_blocks k) None (long_blocks k g) tt
    ∙ append-nil (keyword_blocks k)

-- both ways

small_rules : {T : ℕ → Bool} (i : SpelledIdentifier) (k : Option WrittenKeyword) →
    IsWritten T (small_written i k) → IfSome k (λ k. length (normal_values k.values) ≤ 1) →
    IfSome k IsSmallKeyword
small_rules i None h o = tt
small_rules i (Some k) h o = grind arith

pub tree_is_small : {T : ℕ → Bool} (t : Text) (r : SmallLocale) → IsTreeSmall T t r → IsSmall T t r
tree_is_small {T = T} t r h =
    let g = small_rules h.id h.keyword h.grammatical h.one_value in
    small_by_keyword t r
    (rw h.means (small_identifier_of (head (pieces t)) h.id h.grammatical.id
    (ap head h.spelled ∙ head-spelling (small_written h.id h.keyword) h.grammatical) h.one_variant))
    (grind (arith, small_blocks))

pub small_is_tree : {T : ℕ → Bool} (t : Text) (r : SmallLocale) → IsSmall T t r → IsTreeSmall T t r
small_is_tree {T = T} t r h =
    let s = keyword_spelled t r h in
    let i = h.id.written in record {
      id = i;
      keyword = s.keyword;
      grammatical = rules s.keyword s.grammatical;
      spelled = at (pieces t) (pieces_nonempty t)
          ∙ (grind (arith, extension_is, append-nil));
      one_variant = one_variant (head (pieces t)) r.id h.id;
      one_value = few s.keyword s.grammatical;
      means = λ j. record { id = small_identifier_is (head (pieces t)) r.id h.id j; keyword = s.means j };
    }
  where
    rules : (k : Option WrittenKeyword) → IfSome k IsSmallKeyword → IsWritten T (small_written h.id.written k)
    rules None g = record { id = h.id.grammatical; extensions = tt; different = tt; private = tt }
    rules (Some k) g = record {
      id = h.id.grammatical;
      extensions =
          ((g.u, record { attributes = tt; keywords = ((g.key, g.values), tt); nonempty = omega arith }), tt);
      different = (both_ways _ refl, tt);
      private = tt;
    }

    few : (k : Option WrittenKeyword) → IfSome k IsSmallKeyword →
        IfSome k (λ k. length (normal_values k.values) ≤ 1)
    few None g = tt
    few (Some k) g = g.one_value

    at : (ps : List Text) → ps ≢ [] → ps ≡ head ps ++ flat_map block_pieces (tail_blocks ps)
    at [] n = absurd (n refl)
    at (p ∷ ps) n = sym (head-and-blocks p ps)

-- Small texts: each text is small in one way, or has one fault; and a small text is a locale.
use Rattle.std.proofs.Common.{◌≡◌, ◌≢◌, ◌⊎◌, inl, inr, ℕ, ◌≤◌, Bool, true, false, ◌&&◌, ◌==◌, nat_le, List, [], ◌∷◌, length, refl, sym, ap, ◌∙◌, arith, Option, Some, None, IfSome, MatchResult, Result, Ok, Err, option_map, option_to_list, true≢false}
use Rattle.std.specs.List.{AllByRecursion, list_all}
use Rattle.std.specs.Char.{is_ascii_alphanumeric}
use Rattle.std.proofs.lemmas.Bool.{and_parts, and_from, cond_both, false_from_ne_true, leb-true, le-leb, eqb-true, eqb-false, eq-eqb, ne_eqb}
use Rattle.iloc_spec_grammar.specs.Syntax.{LanguageLengths, Field, Block, code_u, Text, pieces, Kind, Language, Variant, UnicodeKey, Attribute, is_word, IsWord, AreLengths, SpelledIdentifier, HasWords, lower_singleton, head, tail_blocks, front, first_piece}
use Rattle.iloc_spec_grammar.specs.Meaning.{Locale, Means, normal_values, IdentifierMeans, Fault}
use Rattle.iloc_spec_grammar.proofs.WordsLaws.{length-attribute, length-unicode_key}
use Rattle.iloc_spec_grammar.proofs.IdentifierLaws.{one_identifier, pieces-identifier_of, identifier_of-pieces}
use Rattle.iloc_spec_grammar.specs.Reading.{take_first, first_item, identifier_of}
use Rattle.iloc_spec_grammar.proofs.Readings.{one_meaning}
use Rattle.iloc_spec_grammar.proofs.PiecesLaws.{pieces_nonempty}
use Rattle.iloc_spec_grammar.proofs.RuleTests.{Tests, tests_all, tests_word}
use Rattle.iloc_spec_parts.specs.SmallComputing.{small_identifier, has_small_variants, small_identifier_result, block_fault, has_small_keyword, is_u, is_small_block, keyword_read, blocks_result, after_identifier, small_result}
use Rattle.iloc_spec_parts.proofs.SmallShapes.{small_identifier_of, one_variant, small_identifier_is, WrittenKeyword, keyword_blocks, IsSmallKeyword, keyword_spelled, small_by_keyword, u_letter}
use Rattle.iloc_spec_grammar.proofs.SameMeaning.{tree_means}
use Rattle.iloc_spec_parts.specs.Small.{SmallIdentifier, SmallLocale, identifier_of_small, keyword_of_small, locale_of_small, IsSmallIdentifier, IsSmall, HasSmallIdentifierFault, no_language, no_identifier, SmallBlockFault, no_singleton, not_u, attribute, no_key, after_key, HasSmallFault, bad_head, bad_block}
pub use Rattle.iloc_spec_parts.proofs.SmallShapes.{short_different, first-option}

-- identifiers

pub small_identifier_means : {T : ℕ → Bool} (ps : List Text) (r : SmallIdentifier) →
    IsSmallIdentifier T ps r → IdentifierMeans T ps (identifier_of_small r)
small_identifier_means ps r h = h

pub one_small_identifier : {T : ℕ → Bool} (ps : List Text) (r s : SmallIdentifier) →
    IsSmallIdentifier T ps r → IsSmallIdentifier T ps s → r ≡ s
one_small_identifier ps r s a b = grind (arith, small_identifier_is, one_identifier)

-- small texts are locales

pub small_means : {T : ℕ → Bool} (t : Text) (r : SmallLocale) → IsSmall T t r →
    Means T t (locale_of_small r)
small_means t r h = grind arith

-- and have one reading

small_of_locale : Locale → SmallLocale
small_of_locale M = record {
  id = record {
    language = M.id.language;
    script = M.id.script;
    region = M.id.region;
    variant = first_item M.id.variants;
  };
  keyword = option_map (λ f. (f.0, first_item f.1)) (first_item M.extensions.unicode.keywords);
}

keyword_back : (o : Option (Text × Option Text)) →
    option_map (λ (f : Field). (f.0, first_item f.1))
    (first_item (option_to_list (option_map keyword_of_small o)))
    ≡ o
keyword_back None = refl
keyword_back (Some k) = simp first-option

small_of-locale_of_small : (r : SmallLocale) → small_of_locale (locale_of_small r) ≡ r
unfolding small_of_locale
small_of-locale_of_small r = grind (arith, first-option, keyword_back)

pub one_small : {T : ℕ → Bool} → AreLengths T → (t : Text) (r s : SmallLocale) → IsSmall T t r →
    IsSmall T t s → r ≡ s
one_small table t r s a b = sym (small_of-locale_of_small r)
    ∙ ap small_of_locale
    (search (one_meaning, tree_means, small_means))
    ∙ small_of-locale_of_small s

-- reading an identifier

all_words : (k : Kind) (ps : List Text) → Tests (list_all (is_word k) ps) (AllByRecursion (IsWord k) ps)
all_words k ps = tests_all (is_word k) (IsWord k) (tests_word k) ps

taken : (k : Kind) (qs : List Text) → IfSome (take_first (is_word k) qs) (IsWord k)
taken k [] = tt
taken k (q ∷ qs) = grind arith

pub words_read : (T : LanguageLengths) (p : Text) (ps : List Text) → IsWord (Language T) p →
    AllByRecursion (IsWord Variant) (identifier_of (p ∷ ps)).variants → HasWords T (identifier_of (p ∷ ps))
unfolding identifier_of
words_read T p ps h v = search taken

small_read : (T : LanguageLengths) (p : Text) (ps : List Text) → IsWord (Language T) p →
    has_small_variants (identifier_of (p ∷ ps)).variants ≡ true →
    IsSmallIdentifier T (p ∷ ps) (small_identifier (identifier_of (p ∷ ps)))
small_read T p ps h v =
    let i = identifier_of (p ∷ ps) in
    let parts = and_parts _ _ v in
    let few : length i.variants ≤ 1 = leb-true _ _ parts.1 in
    small_identifier_of (p ∷ ps) i (record {
      words = words_read T p ps h ((all_words Variant i.variants).holds parts.0);
      different = short_different i.variants few;
    })
    (sym (pieces-identifier_of p ps)) few

small_unread : (T : LanguageLengths) (p : Text) (ps : List Text) (r : SmallIdentifier) →
    IsSmallIdentifier T (p ∷ ps) r → has_small_variants (identifier_of (p ∷ ps)).variants ≡ true
small_unread T p ps r h =
    let e : identifier_of (p ∷ ps) ≡ h.written =
    grind (arith, identifier_of-pieces) in
    ap (λ (i : SpelledIdentifier). has_small_variants i.variants) e
    ∙ and_from _ _ ((all_words Variant h.written.variants).passes h.grammatical.words.variants)
    (le-leb _ _ (one_variant (p ∷ ps) r h))

pub small_identifier_answer : (T : LanguageLengths) (p : Text) (ps : List Text) →
    MatchResult (small_identifier_result T (p ∷ ps)) (IsSmallIdentifier T (p ∷ ps))
    (HasSmallIdentifierFault T (p ∷ ps))
unfolding small_identifier_result
small_identifier_answer T p ps = cond_both (is_word (Language T) p) _ _
    (λ o. MatchResult o (IsSmallIdentifier T (p ∷ ps)) (HasSmallIdentifierFault T (p ∷ ps)))
    (λ l. cond_both (has_small_variants (identifier_of (p ∷ ps)).variants) _ _
    (λ o. MatchResult o (IsSmallIdentifier T (p ∷ ps)) (HasSmallIdentifierFault T (p ∷ ps)))
    (λ v. small_read T p ps l v)
    (λ v. no_identifier l (λ r h. true≢false (sym (small_unread T p ps r h) ∙ v))))
    (λ l. no_language l)

pub small_identifier_apart : {T : ℕ → Bool} (ps : List Text) (r : SmallIdentifier) (f : Fault) →
    IsSmallIdentifier T ps r → HasSmallIdentifierFault T ps f → ⊥
small_identifier_apart {T = T} ps r f h (no_language e) = grind (arith, true≢false)
small_identifier_apart ps r f h (no_identifier l n) = n r h

pub one_small_identifier_fault : {T : ℕ → Bool} (ps : List Text) {f g : Fault} →
    HasSmallIdentifierFault T ps f → HasSmallIdentifierFault T ps g → f ≡ g
one_small_identifier_fault ps (no_language e) (no_identifier k n) = absurd (true≢false (sym k ∙ e))
one_small_identifier_fault ps (no_identifier l n) (no_language e) = absurd (true≢false (sym l ∙ e))
one_small_identifier_fault ps _ _ = refl

-- the first block

has_block_fault : (b : Block) → SmallBlockFault b (block_fault b)
unfolding block_fault
has_block_fault b = cond_both (is_ascii_alphanumeric b.0) _ _ (SmallBlockFault b)
    (λ a. cond_both (lower_singleton b == code_u) _ _ (SmallBlockFault b)
    (λ u. cond_both (is_word Attribute (first_piece b.1)) _ _ (SmallBlockFault b)
    (λ w. attribute (eqb-true _ _ u) w)
    (λ n. cond_both (is_word UnicodeKey (first_piece b.1)) _ _ (SmallBlockFault b)
    (λ k. after_key (eqb-true _ _ u) k) (λ k. no_key (eqb-true _ _ u) n k)))
    (λ u. not_u a (eqb-false _ _ u)))
    (λ a. no_singleton a)

no_both : (p : Text) → IsWord Attribute p → IsWord UnicodeKey p → ⊥
no_both p a k = let l = length-attribute p a in let m = length-unicode_key p k in absurd (omega arith)

is_block_fault : (b : Block) {f : Fault} → SmallBlockFault b f → block_fault b ≡ f
unfolding block_fault
is_block_fault b (no_singleton e) = rw e refl
is_block_fault b (not_u a n) = rw (a, ne_eqb (lower_singleton b) code_u n) refl
is_block_fault b (attribute u a) = grind (arith, u_letter, eq-eqb)
is_block_fault b (no_key u a k) = grind (arith, u_letter, eq-eqb)
is_block_fault b (after_key u k) = grind (arith, u_letter, eq-eqb, false_from_ne_true, no_both)

-- a small text without a block, and with one
module _ {T : ℕ → Bool} (t : Text) (r : SmallIdentifier) (h : IsSmallIdentifier T (head (pieces t)) r) where
  no_block : tail_blocks (pieces t) ≡ [] → IsSmall T t (record { id = r; keyword = None })
  no_block k = grind (arith, small_by_keyword)

  one_block : (b : Block) (bs : List Block) → tail_blocks (pieces t) ≡ b ∷ bs →
      is_small_block b bs ≡ true → IsSmall T t (record { id = r; keyword = Some (keyword_read b.1) })
  one_block b (d ∷ bs) k s = absurd (true≢false (sym s))
  one_block (c, []) [] k s = absurd (true≢false (sym (and_parts (is_u c) false s).1))
  one_block (c, q ∷ qs) [] k s =
      let parts = and_parts (is_u c) (has_small_keyword (q ∷ qs)) s in
      let word = and_parts (is_word UnicodeKey q)
      (list_all (is_word Attribute) qs && nat_le (length (normal_values qs)) 1) parts.1 in
      let values =
      and_parts (list_all (is_word Attribute) qs) (nat_le (length (normal_values qs)) 1) word.1 in
      small_by_keyword t _ h (record {
        keyword = Some (record { byte = c; key = q; values = qs });
        grammatical = record {
          u = eqb-true _ _ parts.0;
          key = word.0;
          values = (all_words Attribute qs).holds values.0;
          one_value = leb-true _ _ values.1;
        };
        spelled = k;
        means = refl;
      })

-- a small text with a block has a small one
has_small_block : {T : ℕ → Bool} (t : Text) (r : SmallLocale) → IsSmall T t r →
    (b : Block) (bs : List Block) → tail_blocks (pieces t) ≡ b ∷ bs →
    is_small_block b bs ≡ true
has_small_block t r h b bs e =
    let s = keyword_spelled t r h in from s.keyword s.grammatical (sym e ∙ s.spelled)
  where
    from : (k : Option WrittenKeyword) → IfSome k IsSmallKeyword → b ∷ bs ≡ keyword_blocks k →
        is_small_block b bs ≡ true
    from None g e = absurd (cc)
    from (Some k) g e =
        let here : is_small_block (k.byte, k.key ∷ k.values) [] ≡ true =
        and_from (is_u k.byte) (has_small_keyword (k.key ∷ k.values)) (eq-eqb _ _ g.u)
        (and_from (is_word UnicodeKey k.key) _ g.key (and_from (list_all (is_word Attribute) k.values) _
        ((all_words Attribute k.values).passes g.values) (le-leb _ _ g.one_value))) in
        let b_is : b ≡ (k.byte, k.key ∷ k.values) = cc in
        let bs_is : bs ≡ [] = cc in
        (λ i. is_small_block (b_is i) (bs_is i)) ∙ here

pub small_answer : {T : ℕ → Bool} → AreLengths T → (t : Text) →
    MatchResult (small_result T t) (IsSmall T t) (HasSmallFault T t)
unfolding small_result after_identifier blocks_result
small_answer {T = T} table t =
    at_identifier (small_identifier_result T (head (pieces t))) (head_answer (pieces t) (pieces_nonempty t))
  where
    Answer : Result SmallLocale Fault → Type 0
    Answer o = MatchResult o (IsSmall T t) (HasSmallFault T t)

    head_answer : (ps : List Text) → ps ≢ [] →
        MatchResult (small_identifier_result T (head ps)) (IsSmallIdentifier T (head ps))
        (HasSmallIdentifierFault T (head ps))
    head_answer [] n = absurd (n refl)
    head_answer (p ∷ ps) n = small_identifier_answer T p (front ps)

    at_blocks : (r : SmallIdentifier) → IsSmallIdentifier T (head (pieces t)) r →
        (bs : List Block) → tail_blocks (pieces t) ≡ bs → Answer (blocks_result r bs)
    at_blocks r h [] k = no_block t r h k
    at_blocks r h (b ∷ bs) k = cond_both (is_small_block b bs) _ _ Answer
        (λ s. one_block t r h b bs k s)
        (λ s. bad_block r h (λ q small. true≢false (sym (has_small_block t q small b bs k) ∙ s)) k
        (has_block_fault b))

    at_identifier : (o : Result SmallIdentifier Fault) →
        MatchResult o (IsSmallIdentifier T (head (pieces t))) (HasSmallIdentifierFault T (head (pieces t))) →
        Answer (after_identifier o (tail_blocks (pieces t)))
    at_identifier (Ok r) h = at_blocks r h (tail_blocks (pieces t)) refl
    at_identifier (Err f) h = bad_head h

pub small_apart : {T : ℕ → Bool} (t : Text) (r : SmallLocale) (f : Fault) → IsSmall T t r →
    HasSmallFault T t f → ⊥
small_apart t r f h (bad_head x) = small_identifier_apart _ r.id f h.id x
small_apart t r f h (bad_block s i n e x) = n r h

pub one_small_fault : {T : ℕ → Bool} (t : Text) {f g : Fault} → HasSmallFault T t f → HasSmallFault T t g →
    f ≡ g
one_small_fault t (bad_head x) (bad_head y) = one_small_identifier_fault _ x y
one_small_fault t (bad_head x) (bad_block s i n e y) = absurd (small_identifier_apart _ _ _ i x)
one_small_fault t (bad_block s i n e x) (bad_head y) = absurd (small_identifier_apart _ _ _ i y)
one_small_fault t (bad_block s {b = b} {bs = bs} i n e x) (bad_block q {b = d} {bs = ds} j m k y) = grind
    (arith, is_block_fault)

-- one or the other

pub by_result : {X Y : Type 0} (P : X → Type 0) (Q : Y → Type 0) (o : Result X Y) → MatchResult o P Q →
    ((x : X) × P x) ⊎ ((y : Y) × Q y)
by_result P Q (Ok x) h = inl (x, h)
by_result P Q (Err y) h = inr (y, h)

pub small_or_fault : {T : ℕ → Bool} → AreLengths T → (t : Text) →
    ((r : SmallLocale) × IsSmall T t r) ⊎ ((f : Fault) × HasSmallFault T t f)
small_or_fault {T = T} table t =
    by_result (IsSmall T t) (HasSmallFault T t) (small_result T t) (small_answer table t)

pub small_identifier_text_answer : (T : LanguageLengths) (t : Text) →
    MatchResult (small_identifier_result T (pieces t)) (IsSmallIdentifier T (pieces t))
    (HasSmallIdentifierFault T (pieces t))
small_identifier_text_answer T t = (elim (pieces t) as (λ ps. pieces t ≡ ps →
    MatchResult (small_identifier_result T ps) (IsSmallIdentifier T ps) (HasSmallIdentifierFault T ps)) [
      | [] ↦ λ e. absurd (pieces_nonempty t e)
      | p ∷ ps ↦ λ e. small_identifier_answer T p ps
    ]) refl

pub small_identifier_or_fault : (T : LanguageLengths) (t : Text) →
    ((r : SmallIdentifier) × IsSmallIdentifier T (pieces t) r)
    ⊎ ((f : Fault) × HasSmallIdentifierFault T (pieces t) f)
small_identifier_or_fault T t =
    by_result (IsSmallIdentifier T (pieces t)) (HasSmallIdentifierFault T (pieces t))
    (small_identifier_result T (pieces t)) (small_identifier_text_answer T t)

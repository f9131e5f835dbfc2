-- What a text means whose head is an identifier, and its normal text; or its fault.
use Rattle.std.proofs.Common.{arith, ◌≡◌, inl, inr, true, List, [], ◌∷◌, ◌++◌, map, flat_map, refl, sym, ap, ◌∙◌, Some, None, append_assoc, option_to_list, true≢false}
use Rattle.std.specs.List.{AllByRecursion, list_any}
use Rattle.std.proofs.lemmas.List.Concat.{flat_map-append}
use Rattle.std.proofs.lemmas.Bool.{or_left, or_right, or_cases}
use Rattle.iloc_spec_grammar.specs.Syntax.{Text, SpelledIdentifier, Identifier, Language, Variant, IsWord, first_piece, head, is_same, is_word, join, dashes, languages, lower, pieces, tail_blocks}
use Rattle.iloc_spec_grammar.specs.Meaning.{Fault, HasFault, HasIdentifierFault, IdentifierMeans, Means, in_head, normal_identifier}
use Rattle.iloc_spec_grammar.specs.Tree.{meaning}
use Rattle.iloc_spec_grammar.specs.Values.{identifier_text, text}
use Rattle.iloc_spec_grammar.specs.Reading.{identifier_of, written_of}
use Rattle.iloc_spec_grammar.specs.Computing.{first_fault, is_identifier, locale_result, unless_fault}
use Rattle.iloc_spec_grammar.proofs.ComputingLaws.{computed_fault, computed_means}
use Rattle.iloc_spec_grammar.proofs.IdentifierLaws.{identifier_of-pieces}
use Rattle.iloc_spec_grammar.proofs.MapLaws.{same_is, same_itself}
use Rattle.iloc_spec_grammar.proofs.PartTexts.{dashes-append, join-append, text_of_parts}
use Rattle.iloc_spec_grammar.proofs.RawLaws.{languages_table}
use Rattle.iloc_spec_grammar.proofs.RuleTests.{tests_identifier}
use Rattle.iloc_spec_grammar.proofs.SetLaws.{any-set_of}
use Rattle.iloc_spec_grammar.proofs.WordsLaws.{is_word-same}
use Rattle.iloc_subtags.specs.declared.parse_error.ParseError.{ParseError}
use Rattle.iloc_subtags.specs.declared.parse_error.ParseError.TheVariants.{OutOfMemory}
use Rattle.iloc_subtags.specs.Judging.{Refusal, error_of}
use Rattle.iloc_outline.specs.Outlines.{parts_text}
use Rattle.iloc_outline.specs.Parts.{Part, blocks_parts, front_pieces, printed_part, variant_parts}
use Rattle.iloc_outline.proofs.PartsInOrder.{variants_printed}
use Rattle.iloc_outline.proofs.PrintedParts.{blocks_text}
use Rattle.iloc_spec_grammar.proofs.SameFaults.{first_of_head}

-- ---- the meaning, or the fault

-- the head is read as what it spells
head_read : (ps : List Text) (i : Identifier) → (m : IdentifierMeans languages ps i) → identifier_of ps
    ≡ m.written
head_read ps i m = grind (arith, identifier_of-pieces)

-- what the plain program answers of a text whose head is an identifier
answer : (t : Text) (i : Identifier) → IdentifierMeans languages (head (pieces t)) i
    → locale_result languages t ≡ unless_fault (first_fault languages [] (tail_blocks (pieces t)))
    (meaning (written_of (pieces t)))
unfolding locale_result
answer t i m =
    let language : is_word (Language languages) (first_piece (pieces t)) ≡ true =
    grind (arith, first_of_head) in
    let good : is_identifier languages (identifier_of (head (pieces t))) ≡ true =
    ap (is_identifier languages) (head_read (head (pieces t)) i m)
    ∙ (tests_identifier languages m.written).passes m.grammatical in
    rw (language, good)

-- if no block has a fault, the text means what is read of it
pub means_read : (t : Text) (i : Identifier) → IdentifierMeans languages (head (pieces t)) i
    → first_fault languages [] (tail_blocks (pieces t)) ≡ None
    → Means languages t (meaning (written_of (pieces t)))
means_read t i m none = (computed_means languages languages_table t (meaning (written_of (pieces t)))).0
    (answer t i m ∙ ap (λ f. unless_fault f (meaning (written_of (pieces t)))) none)

-- the fault of the first bad block is that of the text
pub has_fault : (t : Text) (i : Identifier) (f : Fault) → IdentifierMeans languages (head (pieces t)) i
    → first_fault languages [] (tail_blocks (pieces t)) ≡ Some f
    → HasFault languages t f
has_fault t i f m some = (computed_fault languages languages_table t f).0
    (answer t i m ∙ ap (λ g. unless_fault g (meaning (written_of (pieces t)))) some)

-- as the reader says it
pub refused : (Has : Fault → Type 0) (f : Fault) (e : ParseError) → e ≡ error_of f → Has f → Refusal Has ⊥ e
refused Has f e is h = grind arith

-- the fault of the head is that of the text
pub refused_head : (t : Text) (e : ParseError) → Refusal (HasIdentifierFault languages (head (pieces t))) ⊥ e
    → Refusal (HasFault languages t) ⊥ e
refused_head t OutOfMemory h = h
refused_head t _ h = in_head h

-- ---- variants whose set is that of words are words

variant_of : (w : Text) (ws : List Text) → AllByRecursion (IsWord Variant) ws
    → list_any (is_same (lower w)) (map lower ws) ≡ true → IsWord Variant w
variant_of w [] h e = absurd (true≢false (sym e))
variant_of w (v ∷ ws) h e = elim (or_cases (is_same (lower w) (lower v)) _ e) [
  | inl s ↦ is_word-same Variant w v (same_is (lower w) (lower v) s) ∙ h.0
  | inr s ↦ variant_of w ws h.1 s
]

words_alike : (vs ws : List Text) → AllByRecursion (IsWord Variant) ws
    → ((w : Text) → list_any (is_same w) (map lower vs) ≡ true → list_any (is_same w) (map lower ws) ≡ true)
    → AllByRecursion (IsWord Variant) vs
words_alike [] ws h f = tt
words_alike (v ∷ vs) ws h f = (
  variant_of v ws h (f (lower v) (or_left _ _ (same_itself (lower v)))),
  words_alike vs ws h (λ w e. f w (or_right _ _ e)),
)

-- the variants of what means the same as an identifier are words
pub variants_words : (ps : List Text) (written : SpelledIdentifier)
    → IdentifierMeans languages ps (normal_identifier written)
    → AllByRecursion (IsWord Variant) written.variants
variants_words ps written m = grind (arith, words_alike, any-set_of)

-- ---- the text

-- what parts print, each piece behind a hyphen
pub parts_dashes : (ps : List Part) → dashes (flat_map printed_part ps) ≡ parts_text ps
parts_dashes [] = refl
parts_dashes (p ∷ ps) = simp (dashes-append, parts_dashes ps)

-- of two lists of parts, one behind the other
pub parts_text-append : (ps qs : List Part) → parts_text (ps ++ qs) ≡ parts_text ps ++ parts_text qs
parts_text-append ps qs = flat_map-append (λ p. dashes (printed_part p)) ps qs

-- the text of an identifier is its front, and its variants behind it
pub identifier_text_is : (ps : List Text) (written : SpelledIdentifier)
    → IdentifierMeans languages ps (normal_identifier written)
    → identifier_text (normal_identifier written)
    ≡ join (front_pieces (normal_identifier written)) ++ parts_text (variant_parts written.variants)
unfolding identifier_text
identifier_text_is ps written m =
    let i : Identifier = normal_identifier written in
    ap (λ qs. join (i.language ∷ qs)) (sym (append_assoc (option_to_list i.script)
    (option_to_list i.region) i.variants))
    ∙ join-append i.language (option_to_list i.script ++ option_to_list i.region) i.variants
    ∙ ap (λ t. join (front_pieces i) ++ t) (ap dashes
    (sym (variants_printed written.variants (variants_words ps written m)))
    ∙ parts_dashes (variant_parts written.variants))

-- the text of what is read is that of the identifier, and its blocks behind it
pub text_is : (t : Text) (written : SpelledIdentifier)
    → IdentifierMeans languages (head (pieces t)) (normal_identifier written)
    → first_fault languages [] (tail_blocks (pieces t)) ≡ None
    → text (meaning (written_of (pieces t))) ≡ join (front_pieces (normal_identifier written)) ++ parts_text
    (variant_parts written.variants ++ blocks_parts (tail_blocks (pieces t)))
unfolding written_of
text_is t written m none =
    let bs = blocks_parts (tail_blocks (pieces t)) in
    let vs = variant_parts written.variants in
    let front = join (front_pieces (normal_identifier written)) in
    text_of_parts (meaning (written_of (pieces t)))
    ∙ (λ j. identifier_text (same j) ++ dashes (blocks_text (pieces t) none j))
    ∙ (λ j. identifier_text_is (head (pieces t)) written m j ++ parts_dashes bs j)
    ∙ append_assoc front (parts_text vs) (parts_text bs)
    ∙ ap (λ t. front ++ t) (sym (parts_text-append vs bs))
  where
    same : normal_identifier (identifier_of (head (pieces t))) ≡ normal_identifier written
    same = ap normal_identifier (head_read (head (pieces t)) (normal_identifier written) m) ∙ sym m.means

-- Parts in order: words are printed as their set, and fields as their map.
use Rattle.std.proofs.Common.{◌≡◌, ℕ, List, [], ◌∷◌, ◌++◌, map, flat_map, refl, sym, ap, ◌∙◌}
use Rattle.std.specs.List.{AllByRecursion}
use Rattle.std.specs.Ordering.{nat_cmp}
use Rattle.std.specs.FinMap.{nat_cmp-IsAntisymmetric}
use Rattle.std.proofs.lemmas.List.Folds.{flat_map-map}
use Rattle.std.proofs.lemmas.Simd.{map-map}
use Rattle.iloc_spec_grammar.specs.Syntax.{Text, Fields, Attribute, Variant, IsWord, IsKeyword, IsField, lower, word_cmp, first_piece, fields_pieces}
use Rattle.iloc_spec_grammar.specs.Meaning.{map_of, set_of, normal_values, normal_fields}
use Rattle.iloc_spec_grammar.specs.Reading.{rest_of}
use Rattle.iloc_spec_grammar.specs.Values.{spelled_value, spelled_fields}
use Rattle.iloc_spec_grammar.proofs.General.{all_mapped, all_of}
use Rattle.iloc_spec_grammar.proofs.MapLaws.{same_words, all-map_of}
use Rattle.iloc_spec_grammar.proofs.ValuesLaws.{all_weaker}
use Rattle.iloc_pieces.specs.Words.{IsUpToEight, word_number}
use Rattle.iloc_outline.specs.Parts.{Part, word_part, field_part, in_order, variant_parts, printed_part}
use Rattle.iloc_spans.specs.declared.span.Role.{Role}
use Rattle.iloc_spans.specs.declared.span.Role.TheVariants as roles
use Rattle.iloc_outline.proofs.Maps.{map_of_carried}
use Rattle.iloc_pieces.proofs.WordOrder.{word_order, attribute_fits, variant_fits}
use Rattle.iloc_pieces.proofs.WordNumbers.{key_fits, field_key_fits}

-- the first piece in lower case, by which a part is ordered
abbrev name_of : Part → Text
name_of p = lower (first_piece p.pieces)

-- the number of a part is that of its first piece
record IsNumbered (p : Part) : Type 0 where
  word : p.word ≡ word_number (first_piece p.pieces)
  fits : IsUpToEight (first_piece p.pieces)

abbrev entries : List Part → List (ℕ × Part)
entries ps = map (λ p. (p.word, p)) ps

record IsEntry (e : ℕ × Part) : Type 0 where
  key : e.0 ≡ e.1.word
  part : IsNumbered e.1

-- a fact of each part stays
pub all_in_order : (P : Part → Type 0) (ps : List Part) → AllByRecursion P ps → AllByRecursion P (in_order ps)
all_in_order P ps h = all_mapped (λ (e : ℕ × Part). P e.1) P (λ e. e.1) (λ e k. k)
    (map_of nat_cmp (entries ps))
    (all-map_of nat_cmp nat_cmp-IsAntisymmetric (λ e. P e.1) (entries ps)
    (all_mapped P (λ (e : ℕ × Part). P e.1) (λ p. (p.word, p)) (λ p k. k) ps h))

-- parts in order are the map of their names
map_in_order : {Y : Type 0} (value : Part → Y) (ps : List Part) → AllByRecursion IsNumbered ps
    → map {B = Text × Y} (λ p. (name_of p, value p)) (in_order ps)
    ≡ map_of word_cmp (map {B = Text × Y} (λ p. (name_of p, value p)) ps)
map_in_order {Y = Y} value ps h =
    map-map {C = Text × Y} (λ p. (name_of p, value p)) (λ (e : ℕ × Part). e.1) (map_of nat_cmp (entries ps))
    ∙ map_of_carried nat_cmp word_cmp nat_cmp-IsAntisymmetric same_words IsEntry (λ e. name_of e.1)
    (λ e. value e.1) alike (entries ps)
    (all_mapped IsNumbered IsEntry (λ p. (p.word, p)) (λ p k. record { key = refl; part = k }) ps h)
    ∙ ap (map_of word_cmp) (map-map {C = Text × Y} (λ (e : ℕ × Part). (name_of e.1, value e.1))
    (λ (p : Part). (p.word, p)) ps)
  where
    alike : (e f : ℕ × Part) → IsEntry e → IsEntry f → nat_cmp e.0 f.0 ≡ word_cmp (name_of e.1) (name_of f.1)
    alike e f a b = (λ j. nat_cmp ((a.key ∙ a.part.word) j) ((b.key ∙ b.part.word) j))
        ∙ word_order (first_piece e.1.pieces) (first_piece f.1.pieces) a.part.fits b.part.fits

-- fields in order are printed as the map of what is printed of each
map_printed : {Y : Type 0} (r : Role) (value : List Text → Y) (show : Y → List Text) (fs : Fields)
    → AllByRecursion (λ f. IsUpToEight f.0 × (printed_part (field_part r f) ≡ lower f.0 ∷ show (value f.1)))
    fs
    → flat_map printed_part (in_order (map (field_part r) fs))
    ≡ flat_map (λ (e : Text × Y). e.0 ∷ show e.1) (map_of word_cmp (map (λ f. (lower f.0, value f.1)) fs))
map_printed {Y = Y} r value show fs h =
    let parts : List Part = map (field_part r) fs in
    each (in_order parts)
    (all_in_order (λ p. printed_part p ≡ name_of p ∷ show (value (rest_of p.pieces))) parts
    (all_mapped _ _ (field_part r) (λ f k. k.1) fs h))
    ∙ ap (flat_map (λ (e : Text × Y). e.0 ∷ show e.1))
    (map_in_order (λ p. value (rest_of p.pieces)) parts
    (all_mapped _ IsNumbered (field_part r) (λ f k. record { word = refl; fits = k.0 }) fs h)
    ∙ ap (map_of word_cmp) (map-map {C = Text × Y} (λ p. (name_of p, value (rest_of p.pieces)))
    (field_part r) fs))
  where
    each : (ps : List Part) →
        AllByRecursion (λ p. printed_part p ≡ name_of p ∷ show (value (rest_of p.pieces))) ps
        → flat_map printed_part ps ≡ flat_map (λ (e : Text × Y). e.0 ∷ show e.1)
        (map {B = Text × Y} (λ p. (name_of p, value (rest_of p.pieces))) ps)
    each [] h = refl
    each (p ∷ ps) h = λ j. h.0 j ++ each ps h.1 j

-- words in order are printed as their set
words_printed : (r : Role) (ws : List Text) → AllByRecursion
    (λ w. IsUpToEight w × (printed_part (word_part r w) ≡ lower w ∷ [])) ws
    → flat_map printed_part (in_order (map (word_part r) ws)) ≡ set_of (map lower ws)
words_printed r ws h =
    let fs : Fields = map (λ w. (w, [])) ws in
    let es : List (Text × Unit {0}) = map (λ (f : Text × List Text). (lower f.0, tt {0})) fs in
    ap (λ ps. flat_map printed_part (in_order ps)) (sym
    (map-map {B = Text × List Text} (field_part r) (λ w. (w, [])) ws))
    ∙ map_printed r (λ _. tt {0}) (λ _. []) fs (all_mapped _ _ (λ w. (w, [])) (λ w k. k) ws h)
    ∙ firsts (map_of word_cmp es)
    ∙ ap (map (λ (e : Text × Text). e.0)) (map_of_carried word_cmp word_cmp same_words same_words
    (λ _. Unit {0}) (λ e. e.0) (λ e. e.0) (λ e f _ _. refl) es (all_of _ (λ _. tt) es)
    ∙ ap (map_of word_cmp) (doubled ws))
  where
    firsts : (es : List (Text × Unit {0})) → flat_map (λ (e : Text × Unit {0}). e.0 ∷ []) es
        ≡ map (λ (e : Text × Text). e.0) (map (λ (e : Text × Unit {0}). (e.0, e.0)) es)
    firsts [] = refl
    firsts (e ∷ es) = ap (λ l. e.0 ∷ l) (firsts es)

    doubled : (ws : List Text) → map {B = Text × Text} (λ (e : Text × Unit {0}). (e.0, e.0))
        (map (λ (f : Text × List Text). (lower f.0, tt {0})) (map (λ w. (w, [])) ws))
        ≡ map (λ w. (w, w)) (map lower ws)
    doubled [] = refl
    doubled (w ∷ ws) = ap (λ l. (lower w, lower w) ∷ l) (doubled ws)

-- ---- of variants, attributes, keywords and fields

-- variants are printed as their set
pub variants_printed : (ws : List Text) → AllByRecursion (IsWord Variant) ws
    → flat_map printed_part (variant_parts ws) ≡ set_of (map lower ws)
variants_printed ws h = search (words_printed, all_weaker, variant_fits)

-- so are attributes
pub attributes_printed : (ws : List Text) → AllByRecursion (IsWord Attribute) ws
    → flat_map printed_part (in_order (map (word_part roles.Attribute) ws)) ≡ set_of (map lower ws)
attributes_printed ws h = search (words_printed, all_weaker, attribute_fits)

-- keywords are printed as their map
pub keywords_printed : (fs : Fields) → AllByRecursion IsKeyword fs
    → flat_map printed_part (in_order (map (field_part roles.Keyword) fs)) ≡ fields_pieces (normal_fields fs)
keywords_printed fs h = map_printed roles.Keyword normal_values (λ vs. vs) fs
    (all_weaker IsKeyword _ (λ f k. (key_fits f.0 k.0, refl)) fs h)

-- fields too, with `true` for an empty value
pub values_printed : (fs : Fields) → AllByRecursion IsField fs
    → flat_map printed_part (in_order (map (field_part roles.Field) fs))
    ≡ fields_pieces (spelled_fields (normal_fields fs))
values_printed fs h = map_printed roles.Field normal_values spelled_value fs
    (all_weaker IsField _ (λ f k. (field_key_fits f.0 k.0, refl)) fs h)
    ∙ sym (search flat_map-map)

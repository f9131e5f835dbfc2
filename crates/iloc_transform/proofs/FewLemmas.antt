-- A transform of few words takes no memory.
use Rattle.std.proofs.Common.{◌≡◌, ◌<◌, ◌≤◌, List, [], ◌∷◌, ◌++◌, length, map, refl, sym, ap, ◌∙◌, subst, arith, Option, IfSome, option_map, true≢false}
use Rattle.std.proofs.lemmas.List.{length-map}
use Rattle.iloc_spec_grammar.specs.Syntax.{Text, Language, IsWord, lower, languages, SpelledIdentifier, Identifier, identifier_pieces, fields_pieces}
use Rattle.iloc_spec_grammar.specs.Syntax as written
use Rattle.iloc_spec_grammar.specs.Meaning.{normal_identifier, front, first_piece}
use Rattle.iloc_spec_grammar.specs.Reading.{IdentifierFront, from_block}
use Rattle.iloc_spec_grammar.specs.ByBlocks.{TransformMeans}
use Rattle.iloc_spec_grammar.proofs.IdentifierLaws.{one_identifier}
use Rattle.iloc_spec_grammar.proofs.RawLaws.{languages_table}
use Rattle.iloc_spec_grammar.proofs.SetLaws.{length-set_of-different}
use Rattle.iloc_spec_parts.specs.Fronts.{FrontRead, absent, present, fields_front, TransformRead}
use Rattle.iloc_spec_parts.proofs.TransformLaws.{one_front, transform_agrees}
use Rattle.iloc_spec_parts.proofs.KeptLaws.{some_fields}
use Rattle.iloc_transform.specs.LangReading.{HasFiveVariants}
use Rattle.iloc_transform.specs.TransformReading.{TransformWantsMemory, variants, fields}
use Rattle.iloc_transform.proofs.TransformLemmas.{no_fields}

same_fronts : (xs ys a b : List Text) → xs ++ a ≡ ys ++ b → length xs ≡ length ys → xs ≡ ys
same_fronts [] [] a b e l = refl
same_fronts [] (y ∷ ys) a b e l = absurd (omega (arith, l))
same_fronts (x ∷ xs) [] a b e l = absurd (omega (arith, l))
same_fronts (x ∷ xs) (y ∷ ys) a b e l =
    let heads : x ≡ y = cc in
    let tails : xs ++ a ≡ ys ++ b = cc in
    let rest = same_fronts xs ys a b tails (omega (arith, l)) in
    (λ i. heads i ∷ rest i)

-- one identifier is the longest at the front
one_longest : (ps : List Text) (i j : SpelledIdentifier) (rest more : List Text) →
    IdentifierFront languages ps i rest → IdentifierFront languages ps j more → i ≡ j
one_longest ps i j rest more a b =
    let m : length (identifier_pieces j) ≤ length (identifier_pieces i) =
    a.longest j more b.words b.spelled in
    let n : length (identifier_pieces i) ≤ length (identifier_pieces j) =
    b.longest i rest a.words a.spelled in
    one_identifier i j a.words b.words (same_fronts (identifier_pieces i) (identifier_pieces j) rest more
    (sym a.spelled ∙ b.spelled) (omega (arith, m, n)))

begins_language : (ps : List Text) (i : SpelledIdentifier) (rest : List Text) →
    IdentifierFront languages ps i rest → IsWord (Language languages) (first_piece ps)
begins_language ps i rest f = subst (λ (l : List Text). IsWord (Language languages) (first_piece l))
    (sym f.spelled) f.words.language

few_variants : (ps : List Text) (o : Option SpelledIdentifier) (middle : List Text) →
    FrontRead languages ps o middle → IfSome (option_map normal_identifier o) (λ i. length i.variants ≤ 4) →
    HasFiveVariants ps → ⊥
few_variants ps _ _ (absent e) few h = true≢false (sym (begins_language ps h.written h.rest h.front) ∙ e)
few_variants ps _ _ (present {i = i} {rest = rest} w f) few h =
    let same : h.written ≡ i = one_longest ps h.written i h.rest rest h.front f in
    let kept : length (normal_identifier i).variants ≡ length (map lower i.variants) =
    length-set_of-different (map lower i.variants) w.different in
    let all : length (map lower i.variants) ≡ length i.variants = length-map i.variants lower in
    let those : length h.written.variants ≡ length i.variants =
    ap (λ (j : SpelledIdentifier). length j.variants) same in
    let many : 4 < length h.written.variants = h.many in
    absurd (omega (arith, kept, all, those, many, few))

read_takes_none : (ps : List Text) (m : written.Transform) (rest : List Text) →
    TransformRead languages ps m rest → IfSome m.id (λ i. length i.variants ≤ 4) → m.fields ≡ [] →
    TransformWantsMemory ps → ⊥
read_takes_none ps m rest r few none (variants h) = few_variants ps r.written.id r.middle r.id
    (subst (λ (o : Option Identifier). IfSome o (λ i. length i.variants ≤ 4))
    (ap (λ (n : written.Transform). n.id) r.means) few) h
read_takes_none ps m rest r few none (fields {id = o} {middle = middle} f n) =
    let same : middle ≡ r.middle = (one_front ps f r.id).1 in
    let gone : r.written.fields ≡ [] = no_fields r.written.fields (ap (λ (fs : written.Fields). length fs)
    (sym (ap (λ (n : written.Transform). n.fields) r.means) ∙ none)) in
    some_fields middle n (ap fields_front same ∙ r.spelled ∙ ap fields_pieces gone)

pub few_take_none : (ps : List Text) (m : written.Transform) → TransformMeans languages (front ps) m →
    IfSome m.id (λ i. length i.variants ≤ 4) → m.fields ≡ [] → TransformWantsMemory ps → ⊥
few_take_none ps m h few none w = read_takes_none ps m (from_block ps)
    ((transform_agrees languages languages_table).block ps m h) few none w

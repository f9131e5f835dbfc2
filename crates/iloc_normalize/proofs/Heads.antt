-- What the head of a text makes of it as a data locale.
use Rattle.std.proofs.Common.{◌≡◌, ◌⊎◌, inl, inr, ℕ, suc, ◌+◌, ◌-◌, ◌<◌, ◌≤◌, Bool, true, false, ◌&&◌, nat_le, List, [], ◌∷◌, ◌++◌, length, take, drop, Ok, Err, refl, sym, ap, ◌∙◌, arith, append-nil, length-append}
use Rattle.std.specs.List.{AllByRecursion, list_all}
use Rattle.std.proofs.Math.Seq.{drop-append_seam}
use Rattle.std.proofs.lemmas.Bool.{and_right, cases_Bool, lt-leb}
use Rattle.std.proofs.lemmas.List.{drop-take, length-take-le}
use Rattle.iloc_spec_grammar.specs.Syntax.{Text, Language, Variant, SpelledIdentifier, HasWords, IsWord, blocks, dashes, first_piece, front, head, is_one_byte, is_word, join, languages, pieces, tail_blocks}
use Rattle.iloc_spec_grammar.specs.Meaning.{InvalidSubtag, normal_identifier}
use Rattle.iloc_spec_grammar.specs.Reading.{after_front, after_region, front_of, identifier_of, past, starts_block}
use Rattle.iloc_spec_grammar.proofs.PiecesLaws.{at_pieces}
use Rattle.iloc_spec_grammar.proofs.Readings.{IsLong, long_variant}
use Rattle.iloc_spec_grammar.proofs.ValuesLaws.{all_weaker}
use Rattle.iloc_spec_parts.specs.SmallComputing.{after_identifier, blocks_result, has_small_variants, small_identifier, small_identifier_result, small_result}
use Rattle.iloc_spec_parts.specs.DataComputing.{data_of_result, data_result}
use Rattle.iloc_outline.specs.Identifier.{front_text}
use Rattle.iloc_outline.specs.Parts.{front_pieces}
use Rattle.iloc_outline.proofs.Fronts.{front_text-append}
use Rattle.iloc_outline.proofs.OutlineLemmas.{lower-dashes}
use Rattle.iloc_outline.proofs.TransformLemmas.{front_of_body, words_front, long_language}
use Rattle.iloc_normalize.specs.Data.{IsHead}
use Rattle.iloc_normalize.specs.Subdivisions.{bytes_at, data_behind}
use Rattle.iloc_normalize.specs.declared.data.DataHead.{DataHead}
use Rattle.iloc_normalize.proofs.FrontAnswers.{BeginsWell, blocks_left}
use Rattle.iloc_normalize.proofs.BlockFaults.{head_region, large_head, small_head}
use Rattle.iloc_outline.proofs.BodyLemmas.{front_none, front_past, front_first}

-- ---- variants, and what comes behind them

abbrev pub AreVariants : List Text → Type 0
AreVariants vs = AllByRecursion (λ p. IsWord Variant p) vs

all_long : (vs : List Text) → AreVariants vs → AllByRecursion IsLong vs
all_long vs h = all_weaker (λ p. IsWord Variant p) IsLong long_variant vs h

tests_all : (vs : List Text) → AreVariants vs → list_all (is_word Variant) vs ≡ true
tests_all [] h = refl
tests_all (v ∷ vs) h = λ j. h.0 j && tests_all vs h.1 j

-- no block begins with a variant
past_block : (rest : List Text) → starts_block rest ≡ true → past (is_word Variant) rest ≡ rest
past_block [] s = refl
past_block (q ∷ qs) s = grind (arith, cases_Bool, long_variant)

past_variants : (vs rest : List Text) → AreVariants vs → starts_block rest ≡ true
    → past (is_word Variant) (vs ++ rest) ≡ rest
past_variants [] rest h s = past_block rest s
past_variants (v ∷ vs) rest h s = search (past_variants vs rest h.1 s)

-- ---- the head alone, or before a block

-- the identifier at the front with these variants
abbrev pub head_with : List Text → List Text → SpelledIdentifier
head_with ps vs = let i = front_of ps in
    record { language = i.language; script = i.script; region = i.region; variants = vs }

module _ (t : Text) (begins : BeginsWell t) (vs rest : List Text) (cut : after_region
    (pieces t) ≡ vs ++ rest)
    (variants : AreVariants vs) where
  module _ (few : length vs ≤ 1) (starts : starts_block rest ≡ true) where
    left_over : after_front (pieces t) ≡ rest
    unfolding after_front
    left_over = ap (past (is_word Variant)) cut ∙ past_variants vs rest variants starts

    before : front (vs ++ rest) ≡ vs
    before = search (front_past, all_long, front_none, append-nil)

    small : has_small_variants (front (vs ++ rest)) ≡ true
    small = grind (arith, nat_le, before, tests_all)

    -- what is read of the head
    head_is : (p : Text) (qs : List Text) → IsWord (Language languages) p
        → after_region (p ∷ qs) ≡ vs ++ rest
        → identifier_of (p ∷ front qs) ≡ head_with (p ∷ qs) vs
    unfolding identifier_of front_of
    head_is p qs word e =
        let body = front_of_body (p ∷ qs) word in
        grind (arith, front_first, long_language, head_region, before)

    -- what the text means
    pub meant : data_result languages t ≡ data_behind (small_identifier (head_with (pieces t) vs)) rest
    unfolding data_result small_result after_identifier
    meant = at_pieces Found by t begins cut (blocks_left t begins ∙ ap blocks left_over)
      where
        Found : List Text → Type 0
        Found ps = IsWord (Language languages) (first_piece ps) → after_region ps ≡ vs ++ rest
            → tail_blocks ps ≡ blocks rest
            → data_of_result (after_identifier (small_identifier_result languages (head ps))
            (tail_blocks ps))
            ≡ data_of_result (blocks_result (small_identifier (head_with ps vs)) (blocks rest))

        by : (p : Text) (qs : List Text) → Found (p ∷ qs)
        by p qs word e b =
            let read = small_head p qs word (ap (λ rs. has_small_variants (front rs)) e ∙ small)
            ∙ ap (λ i. Ok (small_identifier i)) (head_is p qs word e) in
            λ j. data_of_result (after_identifier (read j) (b j))

  -- a piece that fits nowhere
  module _ (q : Text) (more : List Text) (goes_on : rest ≡ q ∷ more) (longer : is_one_byte q ≡ false)
      (odd : ((vs ≡ []) × (is_word Variant q ≡ false)) ⊎ (length vs ≡ 1)) where
    front_is : front (vs ++ rest) ≡ vs ++ q ∷ front more
    front_is = grind (arith, front_past, all_long, front_first)

    large : has_small_variants (vs ++ q ∷ front more) ≡ false
    large = by odd
      where
        no_variant : is_word Variant q ≡ false → has_small_variants (q ∷ front more) ≡ false
        no_variant e = ap (λ (b : Bool). (b && list_all (is_word Variant) (front more)) && nat_le (suc
            (length (front more))) 1) e

        many : (ws : List Text) → 2 ≤ length ws → nat_le (length ws) 1 ≡ false
        many [] l = absurd (omega arith)
        many (v ∷ []) l = absurd (omega arith)
        many (v ∷ w ∷ ws) l = lt-leb (suc (suc (length ws))) 1 (omega arith)

        by : ((vs ≡ []) × (is_word Variant q ≡ false)) ⊎ (length vs ≡ 1)
            → has_small_variants (vs ++ q ∷ front more) ≡ false
        by (inl (none, fails)) = ap (λ ws. has_small_variants (ws ++ q ∷ front more)) none
            ∙ no_variant fails
        by (inr one) =
            let ws = vs ++ q ∷ front more in
            and_right (list_all (is_word Variant) ws) (nat_le (length ws) 1)
            (many ws (omega (arith, one, length-append vs (q ∷ front more))))

    pub misfit : data_result languages t ≡ Err InvalidSubtag
    unfolding data_result small_result after_identifier
    misfit = at_pieces Found by t begins cut
      where
        Found : List Text → Type 0
        Found ps = IsWord (Language languages) (first_piece ps) → after_region ps ≡ vs ++ rest
            → data_of_result (after_identifier (small_identifier_result languages (head ps))
            (tail_blocks ps)) ≡ Err InvalidSubtag

        by : (p : Text) (qs : List Text) → Found (p ∷ qs)
        by p qs word e =
            ap (λ r. data_of_result (after_identifier r (tail_blocks (p ∷ qs))))
            (large_head p qs word (ap (λ rs. has_small_variants (front rs)) e
            ∙ ap has_small_variants front_is ∙ large))

  -- its words
  pub words_with : HasWords languages (head_with (pieces t) vs)
  words_with = let h = words_front (pieces t) begins in search

-- ---- how it is printed

pub head_printed : (w : Text) (h : DataHead) (i : SpelledIdentifier) → HasWords languages i →
    length i.variants ≤ 1
    → h.front.end ≤ h.end → h.end ≤ length w → take h.front.end w ≡ join (front_pieces i)
    → front_text h.front.script h.front.region (take h.front.end w) ≡ join (front_pieces
    (normal_identifier i))
    → (h.front.script < h.front.end) × (h.front.region + 1 < h.front.end)
    → take h.end w ≡ take h.front.end w ++ dashes i.variants → IsHead w h i
head_printed w h i words few ascends inside front printed within cut =
    let s = h.front.script in
    let r = h.front.region in
    let a = take h.front.end w in
    let long : length a ≡ h.front.end = length-take-le h.front.end w (omega arith) in
    let less = within.0 in
    let more = within.1 in
    let reach : h.end ≡ h.front.end + (h.end - h.front.end) = omega (arith, ascends) in
    let rest : bytes_at w h.front.end (h.end - h.front.end) ≡ dashes i.variants =
    sym (drop-take h.front.end (h.end - h.front.end) w)
    ∙ ap (λ (n : ℕ). drop h.front.end (take n w)) (sym reach)
    ∙ ap (drop h.front.end) cut ∙ ap (λ (n : ℕ). drop n (a ++ dashes i.variants)) (sym long)
    ∙ drop-append_seam a (dashes i.variants) in
    grind (arith, front_text-append, lower-dashes)

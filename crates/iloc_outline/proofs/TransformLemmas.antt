-- Which pieces may follow `t`: an identifier and fields, one of both at least.
use Rattle.std.proofs.Common.{◌≡◌, ◌≢◌, ◌⊎◌, inl, inr, ℕ, ◌<◌, Bool, true, false, List, [], ◌∷◌, ◌++◌, length, map, refl, sym, ap, ◌∙◌, arith, Option, Some, None, IfSome, append_assoc, true≢false}
use Rattle.std.specs.List.{AllByRecursion}
use Rattle.std.specs.Char.{to_ascii_lowercase}
use Rattle.std.proofs.lemmas.Bool.{and_parts, and_from, ne_eqb}
use Rattle.std.proofs.lemmas.List.{append_cancel_left}
use Rattle.iloc_spec_grammar.specs.Syntax.{Text, code_t, Language, Variant, TransformKey, Attribute, is_word, IsWord, IsField, Fields, SpelledIdentifier, SpelledTransform, HasWords, IsIdentifier, AllDifferent, fields_pieces, identifier_pieces, optional_pieces, transform_pieces, languages, first_piece, front, lower, word_cmp}
use Rattle.iloc_spec_grammar.specs.Tree.{transform, IsBlock, IsTransformBlock}
use Rattle.iloc_spec_grammar.specs.Reading.{transform_of, front_of, after_front, after_region, from_block, before_key, fields_from, passing}
use Rattle.iloc_spec_grammar.specs.Computing.{is_block, repeats_variant}
use Rattle.iloc_spec_grammar.proofs.Readings.{IsLong, IsNoKey, KeysPass, transform_of-pieces, language_no_key, long_after_language, fields_pass, fields_read, fields_past}
use Rattle.iloc_spec_grammar.proofs.ReadingLaws.{EndsWords, front_of-append, after_front-append, after_front-pieces, front_words, pieces-front_of, starts_ends, from_block_starts, front-from_block}
use Rattle.iloc_spec_grammar.proofs.ReadBack.{fields_each, plain_fields}
use Rattle.iloc_spec_grammar.proofs.RuleTests.{tests_block, tests_fails, tests_different, tests_denied}
use Rattle.iloc_spec_grammar.proofs.RawLaws.{languages_table}
use Rattle.iloc_spec_grammar.proofs.Singletons.{no_t}
use Rattle.iloc_spec_grammar.proofs.WordsLaws.{length-language}
use Rattle.iloc_outline.specs.Reading.{EndsInKey}
use Rattle.iloc_outline.proofs.BodyLemmas.{front_past, front_first}
use Rattle.iloc_pieces.proofs.Tests.{key_no_script, key_no_region, key_no_variant}

-- ---- good blocks

-- what follows the rule is a good block, and is read
pub transform_good : (c : ℕ) (m : SpelledTransform) → to_ascii_lowercase c ≡ code_t →
    IsTransformBlock languages m
    → (is_block languages (c, transform_pieces m) ≡ true) × (transform_of (transform_pieces m) ≡ m)
transform_good c m e h = (
  (tests_block languages (c, transform_pieces m)).passes (inr (transform m, (e, h), refl)),
  transform_of-pieces m h,
)

-- ---- bad ones

-- the pieces are fields
abbrev pub AreFields : List Text → Type 0
AreFields ps = (fs : Fields) × AllByRecursion IsField fs × (ps ≡ fields_pieces fs)

-- a good block of `t` spells a transform
block_of_t : (c : ℕ) (ps : List Text) → to_ascii_lowercase c ≡ code_t → IsBlock languages (c, ps)
    → (m : SpelledTransform) × IsTransformBlock languages m × (ps ≡ transform_pieces m)
block_of_t c ps e (inl h) = absurd (omega (arith, e, h.0))
block_of_t c ps e (inr (x, h, cut)) = grind (arith, no_t)

pub no_language : is_word (Language languages) [] ≡ false
unfolding is_word languages
no_language = refl

-- without a language it spells fields, one at least
alone : (ps : List Text) (m : SpelledTransform) → is_word (Language languages) (first_piece ps) ≡ false
    → IsTransformBlock languages m → ps ≡ transform_pieces m → AreFields ps × (ps ≢ [])
alone ps m none h cut = by m.id m.fields h.id h.fields h.nonempty cut
  where
    some : (fs : Fields) → 0 < length fs → fields_pieces fs ≢ []
    some [] l e = omega arith
    some (f ∷ fs) l e = cc

    by : (o : Option SpelledIdentifier) (fs : Fields) → IfSome o (IsIdentifier languages) →
        AllByRecursion IsField fs
        → (o ≡ None → 0 < length fs) → ps ≡ optional_pieces o ++ fields_pieces fs → AreFields ps × (ps ≢ [])
    by None fs i f n cut = ((fs, f, cut), λ e. some fs (n refl) (sym cut ∙ e))
    by (Some j) fs i f n cut =
        cc

fields_end : (fs : Fields) → AllByRecursion IsField fs → EndsWords (fields_pieces fs)
fields_end [] h = record { script = tt; region = tt; variant = tt }
fields_end (f ∷ fs) h = search (key_no_script, key_no_region, key_no_variant)

-- what stands after the front of an identifier in it is fields
after_words : (ps : List Text) (m : SpelledTransform) → IsWord (Language languages) (first_piece ps)
    → IsTransformBlock languages m → ps ≡ transform_pieces m → AreFields (after_front ps)
after_words ps m word h cut = by m.id m.fields h.id h.fields cut
  where
    key_first : (fs : Fields) → AllByRecursion IsField fs
        → IsWord (Language languages) (first_piece (fields_pieces fs)) → ⊥
    key_first [] f w = true≢false (sym w ∙ no_language)
    key_first (f ∷ fs) k w = true≢false (sym k.0.0 ∙ language_no_key languages f.0 w)

    by : (o : Option SpelledIdentifier) (fs : Fields) → IfSome o (IsIdentifier languages) →
        AllByRecursion IsField fs
        → ps ≡ optional_pieces o ++ fields_pieces fs → AreFields (after_front ps)
    by None fs i f cut = absurd
        (key_first fs f (rw cut at word))
    by (Some j) fs i f cut = grind (arith, after_front-append, fields_end, after_front-pieces)

pub alone_bad : (c : ℕ) (ps : List Text) → to_ascii_lowercase c ≡ code_t
    → is_word (Language languages) (first_piece ps) ≡ false → (ps ≢ [] → ¬ (AreFields ps))
    → is_block languages (c, ps) ≡ false
alone_bad c ps e none bad = tests_fails (tests_block languages (c, ps)) (λ b.
    let m = block_of_t c ps e b in
    let f = alone ps m.0 none m.1 m.2 in
    bad f.1 f.0)

pub front_bad : (c : ℕ) (ps : List Text) → to_ascii_lowercase c ≡ code_t
    → IsWord (Language languages) (first_piece ps) → ¬ (AreFields (after_front ps))
    → is_block languages (c, ps) ≡ false
front_bad c ps e word bad =
    tests_fails (tests_block languages (c, ps))
    (λ b. let m = block_of_t c ps e b in bad (after_words ps m.0 word m.1 m.2))

-- ---- pieces that are no fields

abbrev IsFieldWord : Text → Type 0
IsFieldWord p = IsWord TransformKey p ⊎ IsWord Attribute p

last_of : (P : Text → Type 0) (ps : List Text) (q : Text) (qs : List Text) → AllByRecursion P (ps ++ (q ∷ qs))
    → P q
last_of P [] q qs h = h.0
last_of P (p ∷ ps) q qs h = last_of P ps q qs h.1

-- a piece that is no key comes first
pub no_fields_first : (q : Text) (qs : List Text) → IsNoKey q → ¬ (AreFields (q ∷ qs))
no_fields_first q qs none (fs, h, cut) = by fs h cut
  where
    by : (fs : Fields) → AllByRecursion IsField fs → q ∷ qs ≡ fields_pieces fs → ⊥
    by [] h cut = cc
    by (f ∷ fs) h cut = cc

-- one that is neither key nor value comes after fields
pub no_fields_later : (ps : List Text) (q : Text) (qs : List Text) → IsNoKey q → is_word Attribute q ≡ false
    → ¬ (AreFields (ps ++ (q ∷ qs)))
no_fields_later ps q qs none odd (fs, h, cut) =
    by (last_of IsFieldWord ps q qs (rw cut (fields_each IsFieldWord TransformKey (λ p k. inl k)
    (λ p a. inr a) fs (plain_fields fs h))))
  where
    by : IsFieldWord q → ⊥
    by (inl k) = true≢false (sym k ∙ none)
    by (inr a) = true≢false (sym a ∙ odd)

-- a key without a value comes after fields
pub no_fields_key : (ps : List Text) → EndsInKey ps → ¬ (AreFields ps)
no_fields_key ps k (gs, h, cut) = bad_value (last_field k.fields (rw same at h))
  where
    test : Text → Bool
    test = is_word TransformKey

    before_next : (xs rest : List Text) → AllByRecursion IsNoKey xs → before_key test rest ≡ []
        → before_key test (xs ++ rest) ≡ xs
    before_next [] rest a e = e
    before_next (x ∷ xs) rest a e = rw a.0 (ap (λ l. x ∷ l) (before_next xs rest a.1 e))

    key_next : (fs : Fields) → KeysPass test fs → before_key test (fields_pieces fs ++ (k.key ∷ k.rest)) ≡ []
    key_next [] p = rw k.is_key
    key_next (f ∷ fs) p = rw p.0.0

    from_key : (fs : Fields) → KeysPass test fs
        → fields_from test (fields_pieces fs ++ (k.key ∷ k.rest)) ≡ fs ++
        ((k.key, before_key test k.rest) ∷ fields_from test k.rest)
    from_key [] p = rw k.is_key
    from_key (f ∷ fs) p =
        let first : test f.0 ≡ true = p.0.0 in
        let rest : List Text = fields_pieces fs ++ (k.key ∷ k.rest) in
        let all : (f.1 ++ fields_pieces fs) ++ (k.key ∷ k.rest) ≡ f.1 ++ rest =
        append_assoc f.1 (fields_pieces fs) (k.key ∷ k.rest) in
        let values : before_key test (f.1 ++ rest) ≡ f.1 = before_next f.1 rest p.0.1 (key_next fs p.1) in
        let others : fields_from test (f.1 ++ rest) ≡ fields_from test rest =
        fields_past test f.1 rest p.0.1 in
        rw (first, all, values, others) (ap (λ l. f ∷ l) (from_key fs p.1))

    same : gs ≡ k.fields ++ ((k.key, before_key test k.rest) ∷ fields_from test k.rest)
    same = cc (
      fields_read test gs (fields_pass gs h),
      cut,
      k.cut,
      from_key k.fields (fields_pass k.fields k.each),
    )

    last_field : (fs : Fields)
        → AllByRecursion IsField (fs ++ ((k.key, before_key test k.rest) ∷ fields_from test k.rest))
        → IsField (k.key, before_key test k.rest)
    last_field [] f = f.0
    last_field (g ∷ fs) f = last_field fs f.1

    bad_value : IsField (k.key, before_key test k.rest) → ⊥
    bad_value f = by k.rest k.none f.1 f.2
      where
        by : (qs : List Text) → is_word Attribute (first_piece qs) ≡ false
            → AllByRecursion (IsWord Attribute) (before_key test qs) → 0 < length (before_key test qs) → ⊥
        by [] none each some = omega arith
        by (q ∷ qs) none each some =
            grind (arith, true≢false)

-- ---- the identifier at the front

-- what holds of pieces that begin with a language
abbrev pub AtLanguage : (List Text → Type 0) → Type 0
AtLanguage P = (ps : List Text) → IsWord (Language languages) (first_piece ps) → P ps

pub at_language : (P : List Text → Type 0)
    → ((p : Text) (ps : List Text) → IsWord (Language languages) p → P (p ∷ ps)) → AtLanguage P
at_language P f [] h = absurd (true≢false (sym h ∙ no_language))
at_language P f (p ∷ ps) h = f p ps h

pub long_language : (p : Text) → IsWord (Language languages) p → IsLong p
long_language p h = let l =
    languages_table.least _ (length-language languages p h) in ne_eqb _ _ (λ e. absurd (omega arith))

body_first : (p : Text) (ps : List Text) → IsWord (Language languages) p → front (p ∷ ps) ≡ p ∷ front ps
body_first p ps h = front_first p ps (long_language p h)

pub first_body : AtLanguage (λ ps. IsWord (Language languages) (first_piece (front ps)))
first_body = at_language _
    (λ p ps h. rw (body_first p ps h) h)

-- reading loses nothing
pub pieces_front_of : AtLanguage (λ ps. identifier_pieces (front_of ps) ++ after_front ps ≡ ps)
pieces_front_of = at_language _ (λ p ps h. pieces-front_of p ps)

-- the words are the same of the body
pub front_of_body : AtLanguage (λ ps. front_of (front ps) ≡ front_of ps)
front_of_body = at_language _ (λ p ps h.
    cc (
      body_first p ps h,
      front_of-append p (front ps) (from_block ps)
          (starts_ends (from_block ps) (from_block_starts ps)),
      front-from_block ps,
    ))

pub words_front : (ps : List Text) → IsWord (Language languages) (first_piece ps)
    → HasWords languages (front_of ps)
words_front ps h = front_words ps h

pub long_front : AtLanguage (λ ps. AllByRecursion IsLong (identifier_pieces (front_of ps)))
unfolding front_of
long_front = at_language _
    (λ p ps h. (long_language p h, long_after_language (front_of (p ∷ ps)) (front_words (p ∷ ps) h)))

-- ... and so is what stands behind them
pub after_front_body : AtLanguage (λ ps. after_front (front ps) ≡ front (after_front ps))
after_front_body ps h =
    let ids = identifier_pieces (front_of ps) in
    let rest = after_front ps in
    let whole : front ps ≡ ids ++ front rest =
    ap front (sym (pieces_front_of ps h)) ∙ front_past ids rest (long_front ps h) in
    append_cancel_left ids _ _
    (cc (front_of_body ps h, pieces_front_of (front ps) (first_body ps h), whole))

-- a variant that comes twice
pub repeats : AtLanguage
    (λ ps. ¬ (AllDifferent word_cmp (map lower (front_of ps).variants))
    → repeats_variant languages (front ps) ≡ true)
repeats ps h n = and_from _ _ (first_body ps h)
    ((tests_denied (tests_different word_cmp _)).passes
    (rw (← (front_of_body ps h)) at n))

pub no_repeat : AtLanguage
    (λ ps. AllDifferent word_cmp (map lower (front_of ps).variants)
    → ¬ (repeats_variant languages (front ps) ≡ true))
no_repeat ps h d e = (tests_denied (tests_different word_cmp _)).holds (and_parts _ _ e).1
    (rw (← (front_of_body ps h)) at d)

-- the variants come after the region
pub variants_of : (ps qs : List Text) → qs ≡ after_region ps
    → passing (is_word Variant) qs ≡ (front_of ps).variants
unfolding front_of
variants_of ps qs e = ap (passing (is_word Variant)) e

-- no identifier repeats a variant
pub none_repeats : (ps : List Text) → is_word (Language languages) (first_piece ps) ≡ false
    → ¬ (repeats_variant languages ps ≡ true)
none_repeats ps none e = true≢false (sym (and_parts _ _ e).0 ∙ none)

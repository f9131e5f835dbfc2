-- The pieces of a normal text, read from the left, are the parts of its locale.
use Rattle.std.proofs.Common.{◌≡◌, ◌≢◌, ℕ, ◌≤◌, Bool, true, false, List, [], ◌∷◌, ◌++◌, length, map, flat_map, Option, Some, None, IfSome, option_map, option_to_list, codes, refl, sym, ap, ◌∙◌, subst, arith, append_assoc, append-nil, true≢false}
use Rattle.std.specs.Char.{to_ascii_lowercase, is_ascii_alphanumeric}
use Rattle.std.specs.List.{AllByRecursion}
use Rattle.std.proofs.lemmas.Bool.{false_from_ne_true, and_parts}
use Rattle.iloc_spec_grammar.specs.Syntax.{code_x, code_u, code_t, Text, Block, Language, Script, Region, Variant, Subtag, UnicodeKey, TransformKey, Attribute, PrivateSubtag, Bounds, languages, is_word, IsWord, is_other_singleton, SpelledIdentifier, Unicode, Transform, Fields, identifier_pieces, is_true, optional_pieces, fields_pieces, unicode_pieces, HasWords, IsHyphenFree, pieces}
use Rattle.iloc_spec_grammar.specs.Syntax as words
use Rattle.iloc_spec_grammar.specs.Meaning.{Locale, Extensions}
use Rattle.iloc_spec_grammar.specs.Tree.{before_t, after_t, spelled_identifier}
use Rattle.iloc_spec_grammar.specs.Values.{IsNormal, AreWellFormed, IsExtensionsValue, IsIdentifierValue, lower_identifier, spelled_value, spelled_fields, printed_pieces, unicode_spelling, transform_spelling, other_spelling, private_spelling, extensions_spelling}
use Rattle.iloc_spec_grammar.proofs.General.{some_mapped, all_mapped}
use Rattle.iloc_spec_grammar.proofs.PartTexts.{spelling_of_parts, id_pieces-low}
use Rattle.iloc_spec_grammar.proofs.PiecesLaws.{pieces-join}
use Rattle.iloc_spec_grammar.proofs.RawLaws.{languages_table}
use Rattle.iloc_spec_grammar.proofs.ReadBack.{word_hyphen_free, all_append}
use Rattle.iloc_spec_grammar.proofs.Readings.{language_no_key, identifier_no_key, long}
use Rattle.iloc_spec_grammar.proofs.ValuesLaws.{value_words, value_identifier, lower_is_identifier, attribute_from, all_weaker, all_both, spelled_rule}
use Rattle.iloc_spec_grammar.proofs.WordsLaws.{length-language, length-script, length-region, length-variant, length-attribute, length-unicode_key, length-transform_key, region_no_script, variant_no_script, variant_no_region}
use Rattle.iloc_pieces.specs.Cursor.{IsShortPiece}
use Rattle.iloc_pieces.proofs.CursorLemmas.{short_word}
use Rattle.iloc_expected.proofs.Following.{other_apart}
use Rattle.iloc_text_parts.proofs.KeywordLemmas.{all_after, all_before, each_option, long_subtag}
use Rattle.locale_web.specs.Kinds.{KindedPiece, of_kind, parts_of_identifier, parts_of_optional, parts_of_fields, parts_of_block, parts_of_transform, parts_of_unicode, parts_of_others, parts_of_private, parts_of_extensions, parts_of, IsOfKind, IsNormalTextOf}
use Rattle.locale_web.specs.Steps.{AreShortPieces, begun, inside, step, kinded, word_kind}
use Rattle.locale_web.specs.declared.kind.Kind.{Kind}
use Rattle.locale_web.specs.declared.kind.Kind.TheVariants as kinds
use Rattle.locale_web.specs.declared.state.State.{State}
use Rattle.locale_web.specs.declared.state.State.TheVariants as states

-- ---- pieces that are no longer than a word, and hold no hyphen

abbrev pub IsPlain : Text → Type 0
IsPlain p = IsShortPiece p × IsHyphenFree p

pub plain_word : (k : words.Kind) → Bounds 8 k → (p : Text) → IsWord k p → IsPlain p
plain_word k b p h = (short_word k b p h, word_hyphen_free k p h)

pub plain_of : (w : KindedPiece) → IsOfKind w → IsPlain w.1
plain_of (kinds.Language, p) h = plain_word (Language languages) languages_table.most p h
plain_of (kinds.Script, p) h = plain_word Script tt p h
plain_of (kinds.Region, p) h = plain_word Region tt p h
plain_of (kinds.Variant, p) h = plain_word Variant tt p h
plain_of (kinds.Singleton, p) h = plain_word PrivateSubtag tt p h.0
plain_of (kinds.Attribute, p) h = plain_word Attribute tt p h
plain_of (kinds.Key, p) h = plain_word UnicodeKey tt p h
plain_of (kinds.Value, p) h = plain_word Attribute tt p h
plain_of (kinds.Field, p) h = plain_word TransformKey tt p h
plain_of (kinds.Other, p) h = plain_word Subtag tt p h
plain_of (kinds.Private, p) h = plain_word PrivateSubtag tt p h

-- ---- what a word is, by the state

-- a piece of more than one byte begins no part
in_part : (s : State) (p : Text) → 2 ≤ length p → step s p ≡ inside s p
in_part states.Private p h = refl
in_part s p h = let e = long (length p) h in rw e refl

long_language : (p : Text) → IsWord (Language languages) p → 2 ≤ length p
long_language p h = languages_table.least (length p) (length-language languages p h)

-- words of an identifier

script_is : (p : Text) → IsWord Script p → word_kind p ≡ kinds.Script
script_is p h = rw h refl

region_is : (p : Text) → IsWord Region p → word_kind p ≡ kinds.Region
region_is p h = let n = region_no_script p h in rw (n, h) refl

variant_is : (p : Text) → IsWord Variant p → word_kind p ≡ kinds.Variant
variant_is p h = let n = variant_no_script p h in let m = variant_no_region p h in rw (n, m) refl

-- a state in which words are those of an identifier
record TakesWords (s : State) : Type 0 where
  script : (p : Text) → IsWord Script p → step s p ≡ (kinds.Script, s)
  region : (p : Text) → IsWord Region p → step s p ≡ (kinds.Region, s)
  variant : (p : Text) → IsWord Variant p → step s p ≡ (kinds.Variant, s)

no_key : (p : Text) → length p ≢ 2 → is_word TransformKey p ≡ false
no_key p h = false_from_ne_true _ (λ k. h (length-transform_key p k))

en_is : IsWord (Language languages) (codes "en")
unfolding is_word languages
en_is = refl

region_no_key : (p : Text) → IsWord Region p → is_word TransformKey p ≡ false
region_no_key p h =
    let i : SpelledIdentifier =
    record { language = codes "en"; script = None; region = Some p; variants = [] } in
    let words : HasWords languages i = record { language = en_is; script = tt; region = h; variants = tt } in
    (identifier_no_key {T = languages} i words).1.0

takes_words : (s : State) → ((p : Text) → 2 ≤ length p → is_word TransformKey p ≡ false
    → step s p ≡ (word_kind p, s)) → TakesWords s
takes_words s takes = record {
  script = λ p h. let n = length-script p h in takes p (omega arith) (no_key p (omega arith))
      ∙ ap (λ k. (k, s)) (script_is p h);
  region = λ p h. let n = length-region p h in takes p (omega arith) (region_no_key p h)
      ∙ ap (λ k. (k, s)) (region_is p h);
  variant = λ p h. let n = length-variant p h in takes p (omega arith) (no_key p (omega arith))
      ∙ ap (λ k. (k, s)) (variant_is p h);
}

head_takes : TakesWords states.Head
head_takes = takes_words states.Head (λ p h n. in_part states.Head p h)

source_takes : TakesWords states.Source
source_takes = takes_words states.Source (λ p h n. in_part states.Source p h ∙ rw n refl)

-- keys, and what follows them

-- a key of `t`, and one of `u`, in a state in which it may come
field_in : (s : State) → ((p : Text) → IsWord TransformKey p → inside s p ≡ (kinds.Field, states.Fields))
    → (p : Text) → IsWord TransformKey p → step s p ≡ (kinds.Field, states.Fields)
field_in s f p h = let n = length-transform_key p h in in_part s p (omega arith) ∙ f p h

key_in : (s : State) → ((p : Text) → IsWord UnicodeKey p → inside s p ≡ (kinds.Key, states.Keywords))
    → (p : Text) → IsWord UnicodeKey p → step s p ≡ (kinds.Key, states.Keywords)
key_in s f p h = let n = length-unicode_key p h in in_part s p (omega arith) ∙ f p h

-- attributes and values
attribute_in : (s : State) (k : Kind) → ((p : Text) → is_word TransformKey p ≡ false
    → is_word UnicodeKey p ≡ false → inside s p ≡ (k, s))
    → (p : Text) → IsWord Attribute p → step s p ≡ (k, s)
attribute_in s k f p h =
    let n = length-attribute p h in
    in_part s p (omega arith)
    ∙ f p (no_key p (omega arith)) (false_from_ne_true _ (λ k. let m = length-unicode_key p k in omega arith))

-- a language, first or after `t`
language_in_start : (p : Text) → IsWord (Language languages) p
    → step states.Start p ≡ (kinds.Language, states.Head)
language_in_start p h = in_part states.Start p (long_language p h)

language_in_transform : (p : Text) → IsWord (Language languages) p
    → step states.Transform p ≡ (kinds.Language, states.Source)
language_in_transform p h =
    let k = language_no_key languages p h in
    in_part states.Transform p (long_language p h) ∙ rw k refl

-- subtags of other extensions, and after `x`
other_in : (p : Text) → IsWord Subtag p → step states.Other p ≡ (kinds.Other, states.Other)
other_in p h = in_part states.Other p (long_subtag p h)

-- ---- what is said of the pieces of a part, whatever part follows

abbrev pub is_open : State → Bool
is_open states.Private = false
is_open s = true

-- the pieces begin a part, or are none: the state before them does not matter
abbrev pub Begins : List Text → Type 0
Begins qs = (s : State) → is_open s ≡ true → kinded s qs ≡ kinded states.Other qs

pub record AreKinded (s : State) (ps : List Text) (parts : List KindedPiece) : Type 0 where
  pub each : (qs : List Text) → Begins qs → kinded s (ps ++ qs) ≡ parts ++ kinded states.Other qs
  pub words : AllByRecursion IsOfKind parts

nothing_kinded : (s : State) → is_open s ≡ true → AreKinded s [] []
nothing_kinded s o = record { each = λ qs begins. begins s o; words = tt }

one_kinded : {s next : State} {k : Kind} {ps : List Text} {parts : List KindedPiece} (p : Text) →
    step s p ≡ (k, next)
    → IsOfKind (k, p)
    → AreKinded next ps parts → AreKinded s (p ∷ ps) ((k, p) ∷ parts)
one_kinded {k = k} {ps = ps} p is word h = record {
  each = λ qs begins. ap (λ w. (w.0, p) ∷ kinded w.1 (ps ++ qs)) is
      ∙ ap (λ ws. (k, p) ∷ ws) (h.each qs begins);
  words = (word, h.words);
}

-- words of one kind, which leave the state as it is
each_kinded : (s : State) (k : Kind) (K : words.Kind) → ((p : Text) → IsWord K p → IsOfKind (k, p))
    → ((p : Text) → IsWord K p → step s p ≡ (k, s))
    → (ws : List Text) → AllByRecursion (IsWord K) ws
    → {ps : List Text} {parts : List KindedPiece} → AreKinded s ps parts →
    AreKinded s (ws ++ ps) (of_kind k ws ++ parts)
each_kinded s k K b is [] h rest = rest
each_kinded s k K b is (w ∷ ws) h rest =
    one_kinded w (is w h.0) (b w h.0) (each_kinded s k K b is ws h.1 rest)

-- the same of equal lists
kinded_as : {s : State} {ps qs : List Text} {xs ys : List KindedPiece} → ps ≡ qs → xs ≡ ys → AreKinded s ps xs
    → AreKinded s qs ys
kinded_as {s} {ps} {qs} {xs} {ys} e f h = subst (λ (l : List Text). AreKinded s l ys) e
    (subst (λ (l : List KindedPiece). AreKinded s ps l) f h)

three : {X : Type 0} (a b c d : List X) → a ++ (b ++ (c ++ d)) ≡ (a ++ (b ++ c)) ++ d
three a b c d = simp append_assoc

-- words after a language
after_language_kinded : {s : State} → TakesWords s → (i : SpelledIdentifier) → HasWords languages i
    → {ps : List Text} {parts : List KindedPiece} → AreKinded s ps parts
    → AreKinded s ((option_to_list i.script ++ (option_to_list i.region ++ i.variants)) ++ ps)
    ((of_kind kinds.Script (option_to_list i.script)
    ++ (of_kind kinds.Region (option_to_list i.region) ++ of_kind kinds.Variant i.variants)) ++ parts)
after_language_kinded {s} takes i h {ps} {parts} rest =
    kinded_as (three (option_to_list i.script) (option_to_list i.region) i.variants ps)
    (three (of_kind kinds.Script (option_to_list i.script)) (of_kind kinds.Region (option_to_list i.region))
    (of_kind kinds.Variant i.variants) parts)
    (each_kinded s kinds.Script Script (λ p h. h) takes.script _
    (each_option {P = IsWord Script} (λ p h. h) i.script h.script)
    (each_kinded s kinds.Region Region (λ p h. h) takes.region _
    (each_option {P = IsWord Region} (λ p h. h) i.region h.region)
    (each_kinded s kinds.Variant Variant (λ p h. h) takes.variant i.variants h.variants rest)))

-- an identifier, in front or after `t`
identifier_kinded : {first s : State}
    → ((p : Text) → IsWord (Language languages) p → step first p ≡ (kinds.Language, s)) → TakesWords s
    → (i : SpelledIdentifier) → HasWords languages i
    → {ps : List Text} {parts : List KindedPiece} → AreKinded s ps parts
    → AreKinded first (identifier_pieces i ++ ps) (parts_of_identifier i ++ parts)
identifier_kinded is takes i h rest =
    one_kinded i.language (is i.language h.language) h.language
    (after_language_kinded takes i h rest)

-- each key is a word of the kind, and each value one of three bytes or more
abbrev AreFields : words.Kind → Fields → Type 0
AreFields K fs = AllByRecursion (λ f. IsWord K f.0 × AllByRecursion (IsWord Attribute) f.1) fs

-- fields: the first key comes in one state, and each other in another
module _ (s : State) (k : Kind) (K : words.Kind) (b : (p : Text) → IsWord K p → IsOfKind (k, p))
    (o : is_open s ≡ true) (key : (p : Text) → IsWord K p → step s p ≡ (k, s))
    (value : (p : Text) → IsWord Attribute p → step s p ≡ (kinds.Value, s)) where
  fields_kinded : (first : State) → is_open first ≡ true → ((p : Text) → IsWord K p → step first p ≡ (k, s))
      → (fs : Fields) → AreFields K fs → AreKinded first (fields_pieces fs) (parts_of_fields k fs)
  fields_kinded first i is [] h = nothing_kinded first i
  fields_kinded first i is (f ∷ fs) h =
      one_kinded f.0 (is f.0 h.0.0) (b f.0 h.0.0)
      (each_kinded s kinds.Value Attribute (λ p h. h) value f.1 h.0.1 (fields_kinded s o key fs h.1))

-- what follows `u`
unicode_kinded : (u : Unicode) → AllByRecursion (IsWord Attribute) u.attributes
    → AreFields UnicodeKey u.keywords
    → AreKinded states.Attributes (unicode_pieces u) (of_kind kinds.Attribute u.attributes
    ++ parts_of_fields kinds.Key u.keywords)
unicode_kinded u h f =
    each_kinded states.Attributes kinds.Attribute Attribute (λ p h. h)
    (attribute_in states.Attributes kinds.Attribute (λ p t k. rw k refl)) u.attributes h
    (fields_kinded states.Keywords kinds.Key UnicodeKey (λ p h. h) refl
    (key_in states.Keywords (λ p k. rw k refl))
    (attribute_in states.Keywords kinds.Value (λ p t k. rw k refl))
    states.Attributes refl (key_in states.Attributes (λ p k. rw k refl)) u.keywords f)

-- what follows `t`
transform_kinded : (o : Option SpelledIdentifier) (fs : Fields) → IfSome o (HasWords languages)
    → AreFields TransformKey fs
    → AreKinded states.Transform (optional_pieces o ++ fields_pieces fs)
    (parts_of_optional o ++ parts_of_fields kinds.Field fs)
transform_kinded o fs h f = by o h
  where
    from : (first : State) → is_open first ≡ true
        → ((p : Text) → IsWord TransformKey p → inside first p ≡ (kinds.Field, states.Fields))
        → AreKinded first (fields_pieces fs) (parts_of_fields kinds.Field fs)
    from first i is =
        fields_kinded states.Fields kinds.Field TransformKey (λ p h. h) refl
        (field_in states.Fields (λ p k. rw k refl))
        (attribute_in states.Fields kinds.Value (λ p k u. rw k refl)) first i (field_in first is) fs f

    by : (o : Option SpelledIdentifier) → IfSome o (HasWords languages)
        → AreKinded states.Transform (optional_pieces o ++ fields_pieces fs)
        (parts_of_optional o ++ parts_of_fields kinds.Field fs)
    by None h = from states.Transform refl (λ p k. rw k refl)
    by (Some i) h =
        identifier_kinded language_in_transform source_takes i h
        (from states.Source refl (λ p k. rw k refl))

-- ---- the parts that follow the identifier

pub record AreRest (es : List Text) (parts : List KindedPiece) : Type 0 where
  pub are : kinded states.Other es ≡ parts
  pub begins : Begins es
  pub words : AllByRecursion IsOfKind parts

kinded_alone : {s : State} {ps : List Text} {parts : List KindedPiece} → AreKinded s ps parts →
    kinded s ps ≡ parts
kinded_alone {s} {ps} {parts} h =
    ap (kinded s) (sym (append-nil ps)) ∙ h.each [] (λ s o. refl) ∙ append-nil parts

-- a piece of one byte begins a part in each state but the last
one_begins : (c : ℕ) (rest : List Text) → Begins ((c ∷ []) ∷ rest)
one_begins c rest states.Private o = absurd (true≢false (sym o))
one_begins c rest s o = refl

byte_word : (c : ℕ) → is_ascii_alphanumeric c ≡ true → IsWord PrivateSubtag (c ∷ [])
unfolding is_word
byte_word c h = rw h refl

-- a part with its singleton, and what follows it
module _ (c : ℕ) (s : State) (is : begun (to_ascii_lowercase c) ≡ s)
    (byte : is_ascii_alphanumeric c ≡ true) {es : List Text} {q : List KindedPiece} (r : AreRest es q) where
  some_kinded : (ps : List Text) → AreKinded s ps (kinded s ps) → AreRest (printed_pieces (c, ps) ++ es)
      (parts_of_block c (kinded s ps) ++ q)
  some_kinded [] h = r
  some_kinded (p ∷ ps) h = record {
    are = ap (λ n. (kinds.Singleton, c ∷ []) ∷ kinded n ((p ∷ ps) ++ es)) is
        ∙ ap (λ l. (kinds.Singleton, c ∷ []) ∷ l)
        (h.each es r.begins ∙ ap (λ l. kinded s (p ∷ ps) ++ l) r.are);
    begins = one_begins c ((p ∷ ps) ++ es);
    words = ((byte_word c byte, refl), all_append IsOfKind (kinded s (p ∷ ps)) q h.words r.words);
  }

  block_kinded : {ps : List Text} {parts : List KindedPiece} → AreKinded s ps parts
      → AreRest (printed_pieces (c, ps) ++ es) (parts_of_block c parts ++ q)
  block_kinded {ps} {parts} h =
      let e = kinded_alone h in
      subst (λ (xs : List KindedPiece). AreRest (printed_pieces (c, ps) ++ es) (parts_of_block c xs ++ q)) e
      (some_kinded ps (kinded_as refl (sym e) h))

-- `u` and what follows it
unicode_rest : (u : Unicode) → AllByRecursion (IsWord Attribute) u.attributes
    → AreFields UnicodeKey u.keywords
    → {es : List Text} {q : List KindedPiece} → AreRest es q → AreRest (unicode_spelling u ++ es)
    (parts_of_unicode u ++ q)
unfolding unicode_spelling
unicode_rest u h f r = block_kinded code_u states.Attributes refl refl r (unicode_kinded u h f)

-- `t` and what follows it
transform_rest : (m : Transform) → IfSome (option_map lower_identifier m.id) (HasWords languages)
    → AreFields TransformKey (spelled_fields m.fields)
    → {es : List Text} {q : List KindedPiece} → AreRest es q → AreRest (transform_spelling m ++ es)
    (parts_of_transform m ++ q)
unfolding transform_spelling
transform_rest m h f r =
    block_kinded code_t states.Transform refl refl r
    (kinded_as (ap (λ l. l ++ fields_pieces (spelled_fields m.fields)) (id_pieces-low m.id)) refl
    (transform_kinded (option_map lower_identifier m.id) (spelled_fields m.fields) h f))

-- `x` and what follows it
private_kinded : (ws : List Text) → kinded states.Private ws ≡ of_kind kinds.Private ws
private_kinded [] = refl
private_kinded (w ∷ ws) = ap (λ l. (kinds.Private, w) ∷ l) (private_kinded ws)

private_rest : (ws : List Text) → AllByRecursion (IsWord PrivateSubtag) ws
    → AreRest (private_spelling ws) (parts_of_private ws)
unfolding private_spelling
private_rest [] h = record { are = refl; begins = λ s o. refl; words = tt }
private_rest (w ∷ ws) h = record {
  are = ap (λ l. (kinds.Singleton, code_x ∷ []) ∷ l) (private_kinded (w ∷ ws));
  begins = one_begins code_x (w ∷ ws);
  words = (
    (byte_word code_x refl, refl),
    all_mapped (IsWord PrivateSubtag) IsOfKind (λ w. (kinds.Private, w))
        (λ w h. h) (w ∷ ws) h,
  );
}

-- other extensions
abbrev IsOtherPart : Block → Type 0
IsOtherPart (c, ws) =
    ((is_other_singleton c ≡ true) × (to_ascii_lowercase c ≡ c)) × AllByRecursion (IsWord Subtag) ws

others_begun : (c : ℕ) → is_other_singleton c ≡ true → begun c ≡ states.Other
others_begun c h = let e = other_apart c h in rw (e.0, e.1, e.2) refl

others_rest : (os : List Block) → AllByRecursion IsOtherPart os
    → {es : List Text} {q : List KindedPiece} → AreRest es q
    → AreRest (flat_map other_spelling os ++ es) (parts_of_others os ++ q)
unfolding other_spelling
others_rest [] h r = r
others_rest (o ∷ os) h {es} {q} r =
    let kinded = kinded_as (append-nil o.1) (append-nil (of_kind kinds.Other o.1))
    (each_kinded states.Other kinds.Other Subtag (λ p h. h) other_in o.1 h.0.1
    (nothing_kinded states.Other refl)) in
    let n = block_kinded o.0 states.Other (ap begun h.0.0.1 ∙ others_begun o.0 h.0.0.0)
    (and_parts _ _ h.0.0.0).0
    (others_rest os h.1 r) kinded in
    subst (λ (l : List Text). AreRest l (parts_of_others (o ∷ os) ++ q))
    (sym (append_assoc (printed_pieces o) (flat_map other_spelling os) es))
    (subst (λ (l : List KindedPiece). AreRest (printed_pieces o ++ (flat_map other_spelling os ++ es)) l)
    (sym (append_assoc (parts_of_block o.0 (of_kind kinds.Other o.1)) (parts_of_others os) q)) n)

-- ---- the whole text

module _ (e : Extensions) (v : IsExtensionsValue languages e) (w : AreWellFormed e) where
  attributes_are : AllByRecursion (IsWord Attribute) e.unicode.attributes
  attributes_are = all_weaker (IsNormal Attribute) (IsWord Attribute)
      (λ w n. n.0) e.unicode.attributes v.unicode.attributes

  keywords_are : AreFields UnicodeKey e.unicode.keywords
  keywords_are =
      all_weaker (λ f. (IsNormal UnicodeKey f.0 × AllByRecursion (IsNormal Subtag) f.1) × AllByRecursion
      (λ w. (is_true w ≡ false) × (length w ≢ 2)) f.1)
      (λ f. IsWord UnicodeKey f.0 × AllByRecursion (IsWord Attribute) f.1)
      (λ f b. (
        b.0.0.0,
        all_weaker (λ w. IsNormal Subtag w × ((is_true w ≡ false) × (length w ≢ 2)))
            (IsWord Attribute) (λ w n. attribute_from w n.0.0 n.1.1) f.1 (all_both _ _ f.1 b.0.1 b.1),
      ))
      e.unicode.keywords (all_both _ _ e.unicode.keywords v.unicode.keywords w.values)

  source_is : IfSome (option_map lower_identifier e.transform.id) (HasWords languages)
  source_is =
      some_mapped (IsIdentifierValue languages) (HasWords languages) lower_identifier
      (λ i g. (lower_is_identifier (spelled_identifier i) (value_identifier i g)).words) e.transform.id
      v.transform.id

  fields_are : AreFields TransformKey (spelled_fields e.transform.fields)
  fields_are =
      all_mapped (λ f. IsNormal TransformKey f.0 × AllByRecursion
      (λ w. IsNormal Attribute w × (is_true w ≡ false)) f.1)
      (λ f. IsWord TransformKey f.0 × AllByRecursion (IsWord Attribute) f.1)
      (λ f. (f.0, spelled_value f.1)) (λ f h. (h.0.0, (spelled_rule f.1 h.1).0)) e.transform.fields
      v.transform.fields

  private_are : AllByRecursion (IsWord PrivateSubtag) e.private
  private_are = all_weaker (IsNormal PrivateSubtag) (IsWord PrivateSubtag) (λ w n. n.0) e.private v.private

  others_are : AllByRecursion IsOtherPart e.others
  others_are =
      all_both _ _ e.others w.singletons
      (all_weaker (λ o. AllByRecursion (IsNormal Subtag) o.1) (λ o. AllByRecursion (IsWord Subtag) o.1)
      (λ o h. all_weaker (IsNormal Subtag) (IsWord Subtag) (λ w n. n.0) o.1 h) e.others v.others)

  extensions_rest : AreRest (extensions_spelling e) (parts_of_extensions e)
  extensions_rest =
      subst (λ (l : List Text). AreRest l (parts_of_extensions e)) (sym (spelling_of_parts e))
      (others_rest (before_t e.others) (all_before IsOtherPart e.others others_are)
      (transform_rest e.transform source_is fields_are
      (unicode_rest e.unicode attributes_are keywords_are
      (others_rest (after_t e.others) (all_after IsOtherPart e.others others_are)
      (private_rest e.private private_are)))))

-- the pieces of parts are those that are kinded
pub kinded_pieces : (s : State) (ps : List Text) → map (λ (w : KindedPiece). w.1) (kinded s ps) ≡ ps
kinded_pieces s [] = refl
kinded_pieces s (p ∷ ps) = ap (λ l. p ∷ l) (kinded_pieces (step s p).1 ps)

-- what the pieces of a normal text are
pub record AreParts (M : Locale) (t : Text) : Type 0 where
  pub kinded : kinded states.Start (pieces t) ≡ parts_of M
  pub short : AreShortPieces (pieces t)
  pub words : AllByRecursion IsOfKind (parts_of M)

pub text_kinded : (M : Locale) (t : Text) → IsNormalTextOf M t → AreParts M t
unfolding parts_of
text_kinded M t h =
    let e = M.extensions in
    let rest = extensions_rest e h.value.extensions h.tests in
    let id = identifier_kinded {first = states.Start} {s = states.Head} language_in_start head_takes
    (spelled_identifier M.id)
    (value_words h.value.id) (nothing_kinded states.Head refl) in
    let front = kinded_as (append-nil (identifier_pieces M.id)) (append-nil (parts_of_identifier M.id)) id in
    let all = identifier_pieces M.id ++ extensions_spelling e in
    let are : kinded states.Start all ≡ parts_of M =
    front.each (extensions_spelling e) rest.begins ∙ ap (λ l. parts_of_identifier M.id ++ l) rest.are in
    let words : AllByRecursion IsOfKind (parts_of M) =
    all_append IsOfKind (parts_of_identifier M.id) (parts_of_extensions e) front.words rest.words in
    let plain : AllByRecursion IsPlain all =
    subst (AllByRecursion IsPlain)
    (ap (map (λ (w : KindedPiece). w.1)) (sym are) ∙ kinded_pieces states.Start all)
    (all_mapped IsOfKind IsPlain (λ w. w.1) plain_of (parts_of M) words) in
    let cut : pieces t ≡ all = ap pieces h.text ∙ pieces-join M.id.language _
    (all_weaker IsPlain IsHyphenFree (λ p h. h.1) all plain) in
    record {
      kinded = ap (kinded states.Start) cut ∙ are;
      short = subst AreShortPieces (sym cut) (all_weaker IsPlain IsShortPiece (λ p h. h.0) all plain);
      words = words;
    }

-- The value of a keyword, found among the pieces of a normal text.
use Rattle.std.proofs.Common.{◌≡◌, ◌≢◌, ℕ, ◌≤◌, ◌==◌, Bool, true, false, cond, List, [], ◌∷◌, ◌++◌, length, map, drop, flat_map, refl, sym, ap, ◌∙◌, subst, arith, append_assoc, codes, Option, Some, None, IfSome, option_map, option_and_then, option_to_list, Ok, Err}
use Rattle.std.specs.FinMap.{find}
use Rattle.std.specs.List.{AllByRecursion}
use Rattle.std.specs.Str.{bytes_eq}
use Rattle.std.proofs.lemmas.Bool.{false_from_ne_true}
use Rattle.std.proofs.lemmas.Bool.Decides.{nat_tests}
use Rattle.std.proofs.lemmas.Slice.Eq.{bytes_eq-Decides}
use Rattle.iloc_spec_grammar.specs.Syntax.{Text, Block, Fields, Field, Identifier, Transform, Attribute, IsWord, Subtag, TransformKey, UnicodeKey, Variant, Script, Region, dashes, fields_pieces, identifier_pieces, is_other_singleton, is_same, is_word, join, languages, lower, normal, optional_pieces, read, unicode_pieces, word, word_cmp, is_true, IsHyphenFree}
use Rattle.std.specs.Char.{to_ascii_lowercase}
use Rattle.std.specs.Prelude.{nat_le}
use Rattle.iloc_spec_grammar.specs.Meaning.{Locale}
use Rattle.iloc_spec_grammar.specs.Reading.{passing}
use Rattle.iloc_spec_grammar.specs.Tree.{before_t, after_t}
use Rattle.iloc_spec_grammar.specs.Values.{IsIdentifierValue, IsNormal, IsTransformValue, IsWellFormed, extensions_spelling, other_spelling, printed_pieces, private_spelling, spelled_fields, spelled_value, transform_spelling, unicode_spelling}
use Rattle.iloc_spec_grammar.proofs.General.{all_mapped}
use Rattle.iloc_spec_grammar.proofs.MapLaws.{same_is, same_itself}
use Rattle.iloc_spec_grammar.proofs.PartTexts.{spelling_of_parts, join-dashes}
use Rattle.iloc_spec_grammar.proofs.RawLaws.{languages_table}
use Rattle.iloc_spec_grammar.proofs.ReadBack.{all_append}
use Rattle.iloc_spec_grammar.proofs.ValuesLaws.{all_both, all_weaker, spelled_rule}
use Rattle.iloc_spec_grammar.proofs.WordsLaws.{length-attribute, length-language, length-lower, length-region, length-script, length-transform_key, length-unicode_key, length-variant, length-normal}
use Rattle.iloc_text_parts.specs.Cuts.{after_key, after_u}
use Rattle.iloc_text_parts.specs.Parts.{keyword_text}
use Rattle.iloc_text_parts.specs.Tails.{is_longer, tail_pieces}
use Rattle.iloc_text_parts.proofs.CutLemmas.{Begins, Stops, begins_behind, hyphen_free, is_longer_than, is_tested, is_value, not_longer, split_passing}
use Rattle.iloc_text_parts.proofs.TailLemmas.{tail_pieces-dashes}

-- pieces that are passed over on the way to `u`

abbrev pub IsPassed : Text → Type 0
IsPassed p = (bytes_eq p (codes "u") ≡ false) × (bytes_eq p (codes "x") ≡ false)

abbrev IsLong : Text → Type 0
IsLong p = 2 ≤ length p

differs : (p q : Text) → ¬ (p ≡ q) → bytes_eq p q ≡ false
differs p q h = false_from_ne_true _ (λ e. h ((bytes_eq-Decides p q).0 e))

long_passed : (p : Text) → IsLong p → IsPassed p
long_passed p h = (
  differs p (codes "u") (λ e. let n : length p ≡ 1 = ap length e in absurd (omega arith)),
  differs p (codes "x") (λ e. let n : length p ≡ 1 = ap length e in absurd (omega arith)),
)

other_passed : (c : ℕ) → is_other_singleton c ≡ true → IsPassed (c ∷ [])
other_passed c h =
    let a : (c == 117) ≡ false = grind (arith, nat_tests) in
    let b : (c == 120) ≡ false = grind (arith, nat_tests) in
    (rw a refl, rw b refl)

passes : (xs ys : List Text) → AllByRecursion IsPassed xs → after_u (xs ++ ys) ≡ after_u ys
passes [] ys h = refl
passes (x ∷ xs) ys h = let a = h.0.0 in let b = h.0.1 in rw (a, b) (passes xs ys h.1)

printed_passed : (c : ℕ) (ps : List Text) → IsPassed (c ∷ []) → AllByRecursion IsPassed ps
    → AllByRecursion IsPassed (printed_pieces (c, ps))
printed_passed c [] h g = tt
printed_passed c (p ∷ ps) h g = (h, g)

abbrev IsTested : Block → Type 0
IsTested (c, _) = (is_other_singleton c ≡ true) × (to_ascii_lowercase c ≡ c)

abbrev AreSubtags : Block → Type 0
AreSubtags (_, ws) = AllByRecursion (IsNormal Subtag) ws

-- words of two bytes and more

pub long_subtag : (p : Text) → IsWord Subtag p → 2 ≤ length p
unfolding is_word
long_subtag p h = grind (arith, nat_tests)

normal_long : (ws : List Text) → AllByRecursion (IsNormal Subtag) ws → AllByRecursion IsLong ws
normal_long = all_weaker (IsNormal Subtag) IsLong (λ p h. long_subtag p h.0)

others_passed : (os : List Block) → AllByRecursion IsTested os → AllByRecursion AreSubtags os
    → AllByRecursion IsPassed (flat_map other_spelling os)
unfolding other_spelling
others_passed [] h g = tt
others_passed (o ∷ os) h g =
    all_append IsPassed (printed_pieces o) _
    (printed_passed o.0 o.1 (other_passed o.0 h.0.0)
    (all_weaker IsLong IsPassed long_passed o.1 (normal_long o.1 g.0)))
    (others_passed os h.1 g.1)

pub each_option : {P Q : Text → Type 0} → ((p : Text) → P p → Q p) → (o : Option Text) → IfSome o P
    → AllByRecursion Q (option_to_list o)
each_option f None h = tt
each_option f (Some p) h = (f p h, tt)

long_identifier : (i : Identifier) → IsIdentifierValue languages i
    → AllByRecursion IsLong (identifier_pieces i)
long_identifier i v = (
  languages_table.least (length i.language) (length-language languages i.language v.language.0),
  all_append IsLong (option_to_list i.script) _
      (each_option {P = IsNormal Script} (λ p h. let n = length-script p h.0 in omega arith) i.script
      v.script)
      (all_append IsLong (option_to_list i.region) _
      (each_option {P = IsNormal Region} (λ p h. (length-region p h.0).0) i.region v.region)
      (all_weaker (IsNormal Variant) IsLong (λ p h. let n = length-variant p h.0 in omega arith) i.variants
      v.variants)),
)

long_lower : (ps : List Text) → AllByRecursion IsLong ps → AllByRecursion IsLong (map lower ps)
long_lower = all_mapped IsLong IsLong lower (λ p h. omega (arith, length-lower p))

long_optional : (o : Option Identifier) → IfSome o (IsIdentifierValue languages)
    → AllByRecursion IsLong (map lower (optional_pieces o))
long_optional None h = tt
long_optional (Some i) h = long_lower (identifier_pieces i) (long_identifier i h)

-- fields of keys of two bytes
abbrev AreAsLong : ℕ → Fields → Type 0
AreAsLong n = AllByRecursion (λ f. (length f.0 ≡ 2) × AllByRecursion (λ p. n ≤ length p) f.1)

long_fields : (fs : Fields) → AreAsLong 2 fs → AllByRecursion IsLong (fields_pieces fs)
long_fields [] h = tt
long_fields (f ∷ fs) h =
    all_append IsLong (f.0 ∷ f.1) (fields_pieces fs)
    ((let e : length f.0 ≡ 2 = h.0.0 in omega arith), h.0.1) (long_fields fs h.1)

spelled_long : (fs : Fields)
    → AllByRecursion (λ (key, values). IsNormal TransformKey key
    × AllByRecursion (λ w. IsNormal Attribute w × (is_true w ≡ false)) values) fs
    → AreAsLong 2 (spelled_fields fs)
spelled_long [] h = tt
spelled_long (f ∷ fs) h = (
  (
    length-transform_key f.0 h.0.0.0,
    all_weaker (IsWord Attribute) IsLong (λ p a. let n = length-attribute p a in omega arith)
        (spelled_value f.1) (spelled_rule f.1 h.0.1).0,
  ),
  spelled_long fs h.1,
)

transform_passed : (m : Transform) → IsTransformValue languages m
    → AllByRecursion IsPassed (transform_spelling m)
unfolding transform_spelling
transform_passed m v =
    printed_passed 116 (map lower (optional_pieces m.id) ++ fields_pieces (spelled_fields m.fields))
    (refl, refl)
    (all_weaker IsLong IsPassed long_passed _
    (all_append IsLong (map lower (optional_pieces m.id)) (fields_pieces (spelled_fields m.fields))
    (long_optional m.id v.id) (long_fields (spelled_fields m.fields) (spelled_long m.fields v.fields))))

-- what holds of all holds of those before `t`, and of those after
pub all_before : (P : Block → Type 0) (os : List Block) → AllByRecursion P os → AllByRecursion P (before_t os)
all_before P [] h = tt
all_before P (o ∷ os) h =
    elim (nat_le o.0 116) as (λ b. AllByRecursion P (cond b (o ∷ before_t os) []))
    [ true ↦ (h.0, all_before P os h.1) | false ↦ tt ]

pub all_after : (P : Block → Type 0) (os : List Block) → AllByRecursion P os → AllByRecursion P (after_t os)
all_after P [] h = tt
all_after P (o ∷ os) h =
    elim (nat_le o.0 116) as (λ b. AllByRecursion P (cond b (after_t os) (o ∷ os)))
    [ true ↦ all_after P os h.1 | false ↦ h ]

-- what follows `u`, and more

at_u : (ps later : List Text) → Begins later → after_u later ≡ []
    → (l : List Text) × Begins l × (after_u (printed_pieces (117, ps) ++ later) ≡ ps ++ l)
at_u [] later b e = ([], tt, e)
at_u (p ∷ ps) later b e = (later, b, refl)

at_x : (ws : List Text) → after_u (printed_pieces (120, ws)) ≡ []
at_x [] = refl
at_x (w ∷ ws) = refl

module _ (M : Locale) (w : IsWellFormed M) where
  passed : (cut : List Block → List Block)
      → ((P : Block → Type 0) (os : List Block) → AllByRecursion P os → AllByRecursion P (cut os)) →
      (ys : List Text) → after_u (flat_map other_spelling (cut M.extensions.others) ++ ys) ≡ after_u ys
  passed cut all ys = let os = M.extensions.others in passes (flat_map other_spelling (cut os)) ys
      (others_passed (cut os) (all IsTested os (is_tested M w).singletons)
      (all AreSubtags os (is_value M w).extensions.others))

  none_behind : after_u (flat_map other_spelling (after_t M.extensions.others)
      ++ private_spelling M.extensions.private)
      ≡ []
  unfolding private_spelling
  none_behind = passed after_t all_after _ ∙ at_x M.extensions.private

  in_unicode : (l : List Text) × Begins l
      × (after_u (extensions_spelling M.extensions) ≡ unicode_pieces M.extensions.unicode ++ l)
  unfolding unicode_spelling
  in_unicode =
      let e = M.extensions in
      let u = at_u (unicode_pieces e.unicode) _ (begins_behind (after_t e.others) e.private) none_behind in (
        u.0,
        u.1,
        ap after_u (spelling_of_parts e) ∙ passed before_t all_before _
            ∙ passes (transform_spelling e.transform) _
            (transform_passed e.transform (is_value M w).extensions.transform)
            ∙ u.2,
      )

-- keywords by their keys

same_tests : (v w : Text) → is_same v w ≡ bytes_eq w v
same_tests v w = (elim (is_same v w) as (λ b. is_same v w ≡ b → is_same v w ≡ bytes_eq w v) [
  | true ↦ λ e. e ∙ sym ((bytes_eq-Decides w v).1 (sym (same_is v w e)))
  | false ↦ λ e. e ∙ sym (differs w v
      (λ d. let t : is_same v w ≡ true = subst (λ (u : Text). is_same v u ≡ true) (sym d) (same_itself v) in
      absurd (let f : false ≡ true = sym e ∙ t in cc)))
]) refl

-- what is found of the pieces after a key, of a keyword that is there or not
abbrev IsFoundAs : Option (List Text) → Option (List Text) → Type 0
IsFoundAs None o = o ≡ None
IsFoundAs (Some ws) o = (more : List Text) × Stops (is_longer 2) more
    × AllByRecursion (λ p. is_longer 2 p ≡ true) ws × (o ≡ Some (ws ++ more))

module _ (k : Text) (two : length k ≡ 2) where
  other_key : (p : Text) → 3 ≤ length p → ((length p == 1) ≡ false) × (bytes_eq p k ≡ false)
  other_key p h = (
    grind (arith, nat_tests),
    differs p k (λ e. let n : length p ≡ length k = ap length e in absurd (omega arith)),
  )

  skips : (xs ys : List Text) → AllByRecursion (λ p. 3 ≤ length p) xs
      → after_key k (xs ++ ys) ≡ after_key k ys
  skips [] ys h = refl
  skips (x ∷ xs) ys h =
      let o = other_key x h.0 in let a = o.0 in let b = o.1 in rw (a, b) (skips xs ys h.1)

  none_at : (later : List Text) → Begins later → after_key k later ≡ None
  none_at [] b = refl
  none_at (p ∷ ps) b = let e : (length p == 1) ≡ true = grind (arith, nat_tests) in rw e refl

  stops_behind : (fs : Fields) (later : List Text) → AreAsLong 3 fs → Begins later
      → Stops (is_longer 2) (fields_pieces fs ++ later)
  stops_behind [] [] h b = tt
  stops_behind [] (p ∷ ps) h b = not_longer 2 (omega arith) p b
  stops_behind (f ∷ fs) later h b = let n : length f.0 ≡ 2 = h.0.0 in grind (arith, nat_tests)

  found_at : (f : Field) (fs : Fields) (later : List Text) → AreAsLong 3 (f ∷ fs) → Begins later
      → IsFoundAs (find word_cmp k fs) (after_key k (fields_pieces fs ++ later))
      → (b : Bool) → is_same k f.0 ≡ b
      → IsFoundAs (cond b (Some f.1) (find word_cmp k fs)) (after_key k (fields_pieces (f ∷ fs) ++ later))
  found_at f fs later h b rest true e =
      let n : (length f.0 == 1) ≡ false = (let l : length f.0 ≡ 2 = h.0.0 in grind (arith, nat_tests)) in
      let s : bytes_eq f.0 k ≡ true = sym (same_tests k f.0) ∙ e in (
        fields_pieces fs ++ later,
        stops_behind fs later h.1 b,
        all_weaker (λ p. 3 ≤ length p) (λ p. is_longer 2 p ≡ true) (λ p l. is_longer_than 2 p l) f.1 h.0.1,
        rw (n, s) (ap Some (append_assoc f.1 (fields_pieces fs) later)),
      )
  found_at f fs later h b rest false e =
      let n : (length f.0 == 1) ≡ false = (let l : length f.0 ≡ 2 = h.0.0 in grind (arith, nat_tests)) in
      let s : bytes_eq f.0 k ≡ false = sym (same_tests k f.0) ∙ e in
      let past : after_key k (fields_pieces (f ∷ fs) ++ later) ≡ after_key k (fields_pieces fs ++ later) =
      rw (n, s) (ap (after_key k) (append_assoc f.1 (fields_pieces fs) later)
      ∙ skips f.1 (fields_pieces fs ++ later) h.0.1) in
      subst (IsFoundAs (find word_cmp k fs)) (sym past) rest

  found : (fs : Fields) (later : List Text) → AreAsLong 3 fs → Begins later
      → IsFoundAs (find word_cmp k fs) (after_key k (fields_pieces fs ++ later))
  found [] later h b = none_at later b
  found (f ∷ fs) later h b =
      found_at f fs later h b (found fs later h.1 b) (is_same k f.0) refl

-- a tail without its hyphen

pub drop-dashes : (ws : List Text) → drop 1 (dashes ws) ≡ join ws
unfolding join
drop-dashes [] = refl
drop-dashes (w ∷ ws) = sym (join-dashes w ws)

-- keys as they are read

pub no_word : {E : Type 0} (r e : E) (p : Text) → read UnicodeKey r p ≡ Err e → word UnicodeKey p ≡ None
no_word r e p = (elim (is_word UnicodeKey p)
    as (λ b. cond b (Ok (normal UnicodeKey p)) (Err r) ≡ Err e →
    cond b (Some (normal UnicodeKey p)) None ≡ None)
    [ true ↦ λ h. absurd cc | false ↦ λ h. refl ])

pub some_word : {E : Type 0} (r : E) (p v : Text) → read UnicodeKey r p ≡ Ok v → word UnicodeKey p ≡ Some v
some_word r p v = (elim (is_word UnicodeKey p)
    as (λ b. cond b (Ok (normal UnicodeKey p)) (Err r) ≡ Ok v →
    cond b (Some (normal UnicodeKey p)) None ≡ Some v)
    [ true ↦ λ h. cc | false ↦ λ h. absurd cc ])

key_length : (p v : Text) → word UnicodeKey p ≡ Some v → length v ≡ 2
key_length p v h = (elim (is_word UnicodeKey p)
    as (λ b. is_word UnicodeKey p ≡ b → cond b (Some (normal UnicodeKey p)) None ≡ Some v → length v ≡ 2) [
      | true ↦ λ i e. let s : normal UnicodeKey p ≡ v = cc in
          ap length (sym s) ∙ length-normal UnicodeKey p ∙ length-unicode_key p i
      | false ↦ λ i e. absurd cc
    ]) refl h

pub unknown_is : (M : Locale) (key : Text) → word UnicodeKey key ≡ None → None ≡ keyword_text key M
unknown_is M key n = sym (ap (λ o. option_map join
    (option_and_then (λ k. find word_cmp k M.extensions.unicode.keywords) o)) n)

-- the keyword of the locale

module _ (M : Locale) (w : IsWellFormed M) (key v : Text) (is_key : word UnicodeKey key ≡ Some v)
    (extensions : Text) (us : List Text) (e : extensions ≡ dashes (extensions_spelling M.extensions))
    (a : us ≡ after_u (tail_pieces extensions)) where
  free : AllByRecursion IsHyphenFree (extensions_spelling M.extensions)
  free = behind (identifier_pieces M.id) (hyphen_free M w)
    where
      behind : (xs : List Text) → AllByRecursion IsHyphenFree (xs ++ extensions_spelling M.extensions)
          → AllByRecursion IsHyphenFree (extensions_spelling M.extensions)
      behind [] h = h
      behind (x ∷ xs) h = behind xs h.1

  keywords_are : AreAsLong 3 M.extensions.unicode.keywords
  keywords_are = all_weaker
      (λ f. (IsNormal UnicodeKey f.0 × AllByRecursion (IsNormal Subtag) f.1) × AllByRecursion
      (λ w. (is_true w ≡ false) × (length w ≢ 2)) f.1)
      (λ f. (length f.0 ≡ 2) × AllByRecursion (λ p. 3 ≤ length p) f.1)
      (λ f b. (
        length-unicode_key f.0 b.0.0.0,
        all_weaker (λ w. IsNormal Subtag w × ((is_true w ≡ false) × (length w ≢ 2))) (λ p. 3 ≤ length p)
            (λ p n. let l : 2 ≤ length p = long_subtag p n.0.0 in let d : length p ≢ 2 = n.1.1 in omega arith)
            f.1 (all_both _ _ f.1 b.0.1 b.1),
      ))
      M.extensions.unicode.keywords
      (all_both _ _ M.extensions.unicode.keywords (is_value M w).extensions.unicode.keywords
      (is_tested M w).values)

  attributes_are : AllByRecursion (λ p. 3 ≤ length p) M.extensions.unicode.attributes
  attributes_are = all_weaker (IsNormal Attribute) (λ p. 3 ≤ length p)
      (λ p n. (length-attribute p n.0).0) M.extensions.unicode.attributes
      (is_value M w).extensions.unicode.attributes

  looked_up : IsFoundAs (find word_cmp v M.extensions.unicode.keywords) (after_key v us)
  looked_up =
      let u = in_unicode M w in
      let ks = M.extensions.unicode.keywords in
      let two = key_length key v is_key in
      let pieces_are : us ≡ M.extensions.unicode.attributes ++ (fields_pieces ks ++ u.0) =
      a ∙ ap (λ t. after_u (tail_pieces t)) e
      ∙ ap after_u (tail_pieces-dashes (extensions_spelling M.extensions) free) ∙ u.2
      ∙ append_assoc M.extensions.unicode.attributes (fields_pieces ks) u.0 in
      subst (IsFoundAs (find word_cmp v ks))
      (sym (ap (after_key v) pieces_are ∙ skips v two M.extensions.unicode.attributes _ attributes_are))
      (found v two ks u.0 keywords_are u.1)

  in_text : keyword_text key M ≡ option_map join (find word_cmp v M.extensions.unicode.keywords)
  in_text = ap (λ o. option_map join (option_and_then (λ k. find word_cmp k M.extensions.unicode.keywords) o))
      is_key

  pub absent_is : after_key v us ≡ None → None ≡ keyword_text key M
  absent_is n = by (find word_cmp v M.extensions.unicode.keywords) looked_up ∙ sym in_text
    where
      by : (o : Option (List Text)) → IsFoundAs o (after_key v us) → None ≡ option_map join o
      by None h = refl
      by (Some ws) h = absurd (let f : None ≡ Some (ws ++ h.0) = sym n ∙ h.3 in cc)

  pub value_is : (ls : List Text) → after_key v us ≡ Some ls → (t : Text)
      → t ≡ drop 1 (dashes (passing (is_longer 2) ls))
      → Some t ≡ keyword_text key M
  value_is ls n t d = by (find word_cmp v M.extensions.unicode.keywords) looked_up ∙ sym in_text
    where
      by : (o : Option (List Text)) → IsFoundAs o (after_key v us) → Some t ≡ option_map join o
      by None h = absurd (let f : None ≡ Some ls = sym h ∙ n in cc)
      by (Some ws) h =
          let s : Some ls ≡ Some (ws ++ h.0) = sym n ∙ h.3 in
          let i : ls ≡ ws ++ h.0 = cc in
          ap Some (d ∙ ap (λ l. drop 1 (dashes (passing (is_longer 2) l))) i
          ∙ ap (λ l. drop 1 (dashes l)) (split_passing (is_longer 2) ws h.0 h.2 h.1).0 ∙ drop-dashes ws)

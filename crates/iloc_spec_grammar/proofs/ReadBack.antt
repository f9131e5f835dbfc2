-- The printed text of a well-formed value means the value.
use Rattle.std.proofs.lemmas.Grind.{common_steps}
use Rattle.std.proofs.Common.{◌≡◌, ◌≢◌, ℕ, ◌+◌, ◌<◌, ◌≤◌, Bool, true, false, cond, ◌||◌, List, [], ◌∷◌, ◌++◌, length, map, filter_map, flat_map, refl, sym, ap, ◌∙◌, subst, arith, Option, Some, None, IfSome, option_map, option_to_list, true≢false, is_some, nat_le, nat_lt, append-nil}
use Rattle.std.specs.List.{AllByRecursion}
use Rattle.std.specs.Char.{is_ascii_alphanumeric, to_ascii_lowercase}
use Rattle.std.specs.Ordering.{nat_cmp, eq_by_cmp, is_lt}
use Rattle.std.specs.FinMap.{is_sorted, find}
use Rattle.std.specs.FinMap.Entries.{below_all}
use Rattle.std.proofs.lemmas.Bool.{and_parts, and_from, or_from, leb-true, leb-false, lt-ltb, ltb-true, cond_both}
use Rattle.std.proofs.lemmas.Bool.Decides.{nat_tests}
use Rattle.std.proofs.lemmas.List.Elements.{filter_map-append}
use Rattle.std.proofs.lemmas.List.Concat.{flat_map-append}
use Rattle.std.proofs.lemmas.List.{map-append}
use Rattle.iloc_spec_grammar.specs.Syntax.{LanguageLengths, Block, code_x, code_u, code_t, Text, pieces, join, IsHyphenFree, Kind, Language, Script, Region, Variant, Subtag, UnicodeKey, TransformKey, Attribute, PrivateSubtag, is_word, IsWord, SpelledIdentifier, Unicode, Transform, Fields, identifier_pieces, optional_pieces, fields_pieces, HasWords, IsIdentifier, IsField, kept, is_other_singleton, lower_singleton, AllDifferent, IsPrivate}
use Rattle.iloc_spec_grammar.specs.Tree.{Extension, unicode, transform, other, Written, extension_pieces, block_pieces, extension_block, spelling, IsExtension, IsWritten, unicode_part, transform_part, private_part, other_part, by_singleton, meaning, TreeMeans, IsTreeWellFormed, others_form, private_form, before_t, after_t, printed, tree_text, spelled_transform, spelled_unicode}
use Rattle.iloc_spec_grammar.specs.Meaning.{Locale, normal_unicode, normal_transform}
use Rattle.iloc_spec_grammar.specs.Values.{IsNormal, IsValue, lower_identifier, spelled_fields}
use Rattle.iloc_spec_grammar.proofs.WordsLaws.{word_letters_or_digits}
use Rattle.iloc_spec_grammar.proofs.PiecesLaws.{pieces-join}
use Rattle.iloc_spec_grammar.proofs.MapLaws.{map_of_sorted, sorted_different}
use Rattle.iloc_spec_grammar.proofs.ValuesLaws.{all_weaker, all_both, map_fixed, filter_all, value_identifier, normal_value, value_unicode, normal_value_unicode, value_transform, normal_value_transform, length-spelled_fields}
use Rattle.iloc_spec_grammar.proofs.Singletons.{untied, no_t, no_u}
use Rattle.iloc_spec_grammar.proofs.General.{cond-map, none_passes}

-- lists

pub all_append : {X : Type 0} (P : X → Type 0) (xs ys : List X) → AllByRecursion P xs → AllByRecursion P ys →
    AllByRecursion P (xs ++ ys)
all_append P [] ys h k = k
all_append P (x ∷ xs) ys h k = (h.0, all_append P xs ys h.1 k)

all_if : {X : Type 0} (P : X → Type 0) (b : Bool) (x : X) → (b ≡ true → P x) →
    AllByRecursion P (cond b (x ∷ []) [])
all_if P true x h = (h refl, tt)
all_if P false x h = tt

-- what holds of each word holds of each piece

pub plain_fields : (fs : Fields) → AllByRecursion IsField fs →
    AllByRecursion (λ f. IsWord TransformKey f.0 × AllByRecursion (IsWord Attribute) f.1) fs
plain_fields = grind (arith, all_weaker)

module _ (P : Text → Type 0) where
  option_each : (k : Kind) → ((p : Text) → IsWord k p → P p) → (o : Option Text) → IfSome o (IsWord k) →
      AllByRecursion P (option_to_list o)
  option_each k f None h = tt
  option_each k f (Some w) h = (f w h, tt)

  pub after_language_each : {T : ℕ → Bool} → ((p : Text) → IsWord Script p → P p) →
      ((p : Text) → IsWord Region p → P p) → ((p : Text) → IsWord Variant p → P p) →
      (i : SpelledIdentifier) → HasWords T i →
      AllByRecursion P (option_to_list i.script ++ (option_to_list i.region ++ i.variants))
  after_language_each s r v i h = search (all_append, option_each, all_weaker)

  pub optional_each : (T : LanguageLengths) →
      ((i : SpelledIdentifier) → HasWords T i → AllByRecursion P (identifier_pieces i)) →
      (o : Option SpelledIdentifier) → IfSome o (IsIdentifier T) → AllByRecursion P (optional_pieces o)
  optional_each T f None h = tt
  optional_each T f (Some i) h = f i h.words

  pub fields_each : (k : Kind) → ((p : Text) → IsWord k p → P p) →
      ((p : Text) → IsWord Attribute p → P p) → (fs : Fields) →
      AllByRecursion (λ f. IsWord k f.0 × AllByRecursion (IsWord Attribute) f.1) fs →
      AllByRecursion P (fields_pieces fs)
  fields_each k f g [] h = tt
  fields_each k f g (e ∷ fs) h = all_append P (e.0 ∷ e.1) (fields_pieces fs)
      (f e.0 h.0.0, all_weaker (IsWord Attribute) P g e.1 h.0.1) (fields_each k f g fs h.1)

-- An extension of words alone. Only `other` can be another.
abbrev pub OfWords : Extension → Type 0
OfWords (other ps) = AllByRecursion (IsWord Subtag) ps
OfWords _ = Unit {0}

pub extension_singleton : (T : LanguageLengths) (c : ℕ) (e : Extension) → IsExtension T c e →
    is_ascii_alphanumeric c ≡ true
extension_singleton T c (other ps) h = (and_parts _ _ h.0).0
extension_singleton T c _ h = rw h.0

-- what holds of each word and of each singleton holds of each piece that is spelled
module _ (P : Text → Type 0) (word : (k : Kind) (p : Text) → IsWord k p → P p)
    (singleton : (c : ℕ) → is_ascii_alphanumeric (to_ascii_lowercase c) ≡ true → P (c ∷ [])) where
  words_each : (k : Kind) (ws : List Text) → AllByRecursion (IsWord k) ws → AllByRecursion P ws
  words_each k ws h = all_weaker (IsWord k) P (word k) ws h

  pub identifier_each : {T : ℕ → Bool} (i : SpelledIdentifier) → HasWords T i →
      AllByRecursion P (identifier_pieces i)
  identifier_each {T = T} i h = (
    word (Language T) i.language h.language,
    after_language_each P (word Script) (word Region) (word Variant) i h,
  )

  any_fields_each : (k : Kind) (fs : Fields) →
      AllByRecursion (λ f. IsWord k f.0 × AllByRecursion (IsWord Attribute) f.1) fs →
      AllByRecursion P (fields_pieces fs)
  any_fields_each k = fields_each P k (word k) (word Attribute)

  extension_each : (T : LanguageLengths) (c : ℕ) (e : Extension) → IsExtension T c e → OfWords e →
      AllByRecursion P (extension_pieces e)
  extension_each T c (unicode u) h w = all_append P u.attributes _
      (words_each Attribute u.attributes h.1.attributes) (any_fields_each UnicodeKey u.keywords h.1.keywords)
  extension_each T c (transform m) h w =
      all_append P (optional_pieces m.id) _ (optional_each P T identifier_each m.id h.1.id)
      (any_fields_each TransformKey m.fields (plain_fields m.fields h.1.fields))
  extension_each T c (other ps) h w = words_each Subtag ps w

  extensions_each : (T : LanguageLengths) (es : List (ℕ × Extension)) →
      AllByRecursion (λ e. IsExtension T (lower_singleton e) e.1 × OfWords e.1) es →
      AllByRecursion P (flat_map block_pieces (map extension_block es))
  extensions_each T [] h = tt
  extensions_each T (e ∷ es) h =
      search (extension_singleton, all_append, extension_each, extensions_each T es h.1)

  private_each : (x : Option Block) →
      IfSome x (λ e. (lower_singleton e ≡ code_x) × IsPrivate e.1) →
      AllByRecursion P (flat_map block_pieces (option_to_list x))
  private_each None h = tt
  private_each (Some e) h = grind (arith, all_append, words_each)

  pub written_each : {T : ℕ → Bool} (w : Written) → IsWritten T w →
      AllByRecursion (λ e. OfWords e.1) w.extensions → AllByRecursion P (spelling w)
  written_each {T = T} w h o =
      all_append P (identifier_pieces w.id) _ (identifier_each w.id h.id.words)
      (subst (AllByRecursion P)
      (simp flat_map-append)
      (all_append P (flat_map block_pieces (map extension_block w.extensions)) _
      (extensions_each T w.extensions (all_both _ _ w.extensions h.extensions o))
      (private_each w.private h.private)))

-- words and singletons have no hyphen

pub word_hyphen_free : (k : Kind) (p : Text) → IsWord k p → IsHyphenFree p
word_hyphen_free k p h = grind (arith, none_passes, word_letters_or_digits, nat_tests)

singleton_hyphen_free : (c : ℕ) → is_ascii_alphanumeric (to_ascii_lowercase c) ≡ true → IsHyphenFree (c ∷ [])
singleton_hyphen_free c h = grind (arith, or_from, nat_tests)

pub identifier_hyphen_free : {T : ℕ → Bool} (i : SpelledIdentifier) → HasWords T i →
    AllByRecursion IsHyphenFree (identifier_pieces i)
identifier_hyphen_free i h = identifier_each IsHyphenFree word_hyphen_free singleton_hyphen_free i h

-- a text spelled without stray hyphens has the pieces that were spelled
pub pieces_spelled : {T : ℕ → Bool} (w : Written) → IsWritten T w →
    AllByRecursion (λ e. OfWords e.1) w.extensions → pieces (join (spelling w)) ≡ spelling w
pieces_spelled w h o = search (pieces-join, written_each, word_hyphen_free, singleton_hyphen_free)

-- lists of entries in order

pub nat_lt_from : (a b : ℕ) → is_lt (nat_cmp a b) ≡ true → a < b
nat_lt_from a b h = grind (arith, nat_tests)

pub nat_lt_to : (a b : ℕ) → a < b → is_lt (nat_cmp a b) ≡ true
nat_lt_to a b h = grind (arith, nat_tests)

below_lt : {X : Type 0} (k : ℕ) (es : List (ℕ × X)) → below_all nat_cmp k es ≡ true →
    AllByRecursion (λ e. k < e.0) es
below_lt k [] h = tt
below_lt k (e ∷ es) h = let parts = and_parts _ _ h in (nat_lt_from k e.0 parts.0, below_lt k es parts.1)

lt_below : {X : Type 0} (k : ℕ) (es : List (ℕ × X)) → AllByRecursion (λ e. k < e.0) es →
    below_all nat_cmp k es ≡ true
lt_below k [] h = refl
lt_below k (e ∷ es) h = and_from _ _ (nat_lt_to k e.0 h.0) (lt_below k es h.1)

sorted_append : {X : Type 0} (n : ℕ) (xs ys : List (ℕ × X)) → is_sorted nat_cmp xs ≡ true →
    AllByRecursion (λ e. e.0 < n) xs → is_sorted nat_cmp ys ≡ true → AllByRecursion (λ e. n ≤ e.0) ys →
    is_sorted nat_cmp (xs ++ ys) ≡ true
sorted_append n [] ys sx bx sy by = sy
sorted_append {X = X} n (x ∷ xs) ys sx bx sy by =
    let parts = and_parts _ _ sx in
    grind (
      arith,
      all_append,
      below_lt,
      all_weaker,
      and_from,
      lt_below,
      sorted_append n xs ys parts.1 bx.1 sy by,
    )

sorted_if : {X : Type 0} (b : Bool) (x : ℕ × X) → is_sorted nat_cmp (cond b (x ∷ []) []) ≡ true
sorted_if true x = refl
sorted_if false x = refl

-- the others before and after `t`

abbrev Others : Type 0
Others = List Block

all_before : (P : Block → Type 0) (os : Others) → AllByRecursion P os →
    AllByRecursion P (before_t os)
all_before P [] h = tt
all_before P (o ∷ os) h = grind (arith, cond_both, all_before P os h.1)

all_after : (P : Block → Type 0) (os : Others) → AllByRecursion P os →
    AllByRecursion P (after_t os)
all_after P [] h = tt
all_after P (o ∷ os) h = grind (arith, cond_both, all_after P os h.1)

before_le : (os : Others) → AllByRecursion (λ o. o.0 ≤ code_t) (before_t os)
before_le [] = tt
before_le (o ∷ os) = grind (arith, cond_both, leb-true, before_le os)

after_gt : (os : Others) → is_sorted nat_cmp os ≡ true → AllByRecursion (λ o. code_t < o.0) (after_t os)
after_gt [] h = tt
after_gt (o ∷ os) h =
    let parts = and_parts _ _ h in
    cond_both (nat_le o.0 code_t) _ _ (AllByRecursion (λ p. code_t < p.0)) (λ _. after_gt os parts.1)
    (λ e. let l : code_t < o.0 = leb-false _ _ e in
    (l, all_weaker (λ p. o.0 < p.0) (λ p. code_t < p.0) (λ p k. omega arith) os (below_lt o.0 os parts.0)))

sorted_before : (os : Others) → is_sorted nat_cmp os ≡ true → is_sorted nat_cmp (before_t os) ≡ true
sorted_before [] h = refl
sorted_before (o ∷ os) h =
    let parts = and_parts _ _ h in
    grind (arith, cond_both, and_from, lt_below, all_before, below_lt, sorted_before os parts.1)

sorted_after : (os : Others) → is_sorted nat_cmp os ≡ true → is_sorted nat_cmp (after_t os) ≡ true
sorted_after [] h = refl
sorted_after (o ∷ os) h = cond_both (nat_le o.0 code_t) _ _ (λ l. is_sorted nat_cmp l ≡ true)
    (λ _. sorted_after os (and_parts _ _ h).1) (λ _. h)

before-after : (os : Others) → before_t os ++ after_t os ≡ os
before-after [] = refl
before-after (o ∷ os) = grind (arith, before-after os)

-- what is printed of them

abbrev IsOtherEntry : Block → Type 0
IsOtherEntry o = ((is_other_singleton o.0 ≡ true) × (to_ascii_lowercase o.0 ≡ o.0)) × (0 < length o.1)
    × AllByRecursion (IsNormal Subtag) o.1

abbrev plain_form : Others → List (ℕ × Extension)
plain_form os = map (λ o. (o.0, other o.1)) os

others_form_is : (os : Others) → AllByRecursion IsOtherEntry os → others_form os ≡ plain_form os
others_form_is os h = grind (arith, filter_all, all_weaker, lt-ltb)

kept_words : (ws : List Text) → AllByRecursion (IsNormal Subtag) ws → kept ws ≡ ws
kept_words ws h = grind (arith, filter_all, all_weaker, map_fixed)

other_rule : (T : LanguageLengths) (o : Block) → IsOtherEntry o →
    IsExtension T (to_ascii_lowercase o.0) (other o.1) × AllByRecursion (IsWord Subtag) o.1
unfolding is_word
other_rule T o h = grind (arith, all_weaker, kept_words, and_parts)

all_plain : (P : ℕ × Extension → Type 0) (Q : Block → Type 0) →
    ((o : Block) → Q o → P (o.0, other o.1)) → (os : Others) → AllByRecursion Q os →
    AllByRecursion P (plain_form os)
all_plain P Q f [] h = tt
all_plain P Q f (o ∷ os) h = (f o h.0, all_plain P Q f os h.1)

sorted_plain : (os : Others) → is_sorted nat_cmp os ≡ true → is_sorted nat_cmp (plain_form os) ≡ true
sorted_plain [] h = refl
sorted_plain (o ∷ os) h = let parts = and_parts _ _ h in
    and_from _ _
    (lt_below o.0 (plain_form os)
    (all_plain (λ e. o.0 < e.0) (λ p. o.0 < p.0) (λ p k. k) os (below_lt o.0 os parts.0)))
    (sorted_plain os parts.1)

parts_plain : (os : Others) → AllByRecursion IsOtherEntry os → filter_map other_part (plain_form os) ≡ os
parts_plain [] h = refl
parts_plain (o ∷ os) h = search (kept_words, parts_plain os h.1)

-- looking up a singleton

find_skip : {X : Type 0} (q : ℕ) (xs ys : List (ℕ × X)) → AllByRecursion (λ e. e.0 ≢ q) xs →
    find nat_cmp q (xs ++ ys) ≡ find nat_cmp q ys
find_skip q [] ys h = refl
find_skip q (x ∷ xs) ys h = search (untied, find_skip q xs ys h.1)

find_if : {X : Type 0} (q : ℕ) (b : Bool) (x : X) (ys : List (ℕ × X)) → eq_by_cmp nat_cmp q q ≡ true →
    AllByRecursion (λ e. e.0 ≢ q) ys → find nat_cmp q (cond b ((q, x) ∷ []) [] ++ ys) ≡ cond b (Some x) None
find_if q true x ys t h = cc
find_if q false x ys t h = ap (find nat_cmp q) (sym (append-nil ys)) ∙ find_skip q ys [] h

no_parts : (b : Bool) (c : ℕ) (e : Extension) → other_part (c, e) ≡ None →
    filter_map other_part (cond b ((c, e) ∷ []) []) ≡ []
no_parts true c e h = rw h
no_parts false c e h = refl

-- a part that is there or empty

unicode_back : (u : Unicode) → normal_unicode (spelled_unicode u) ≡ u → (b : Bool) →
    nat_lt 0 (length u.attributes + length u.keywords) ≡ b →
    unicode_part (cond b (Some (unicode (spelled_unicode u))) None) ≡ u
unicode_back u h true e = h
unicode_back u h false e = grind (arith, common_steps, nat_tests)

transform_back : (m : Transform) → normal_transform (spelled_transform m) ≡ m → (b : Bool) →
    (is_some m.id || nat_lt 0 (length m.fields)) ≡ b →
    transform_part (cond b (Some (transform (spelled_transform m))) None) ≡ m
transform_back m h true e = h
transform_back m h false e = grind (arith, common_steps, nat_tests)

transform_nonempty : (m : Transform) → (is_some m.id || nat_lt 0 (length m.fields)) ≡ true →
    option_map lower_identifier m.id ≡ None → 0 < length (spelled_fields m.fields)
transform_nonempty m e n = grind (arith, length-spelled_fields, true≢false)

private_back : (ws : List Text) → AllByRecursion (IsNormal PrivateSubtag) ws →
    private_part (private_form ws) ≡ ws
private_back [] h = refl
private_back (w ∷ ws) h = grind (arith, map_fixed, all_weaker)

private_rule : (ws : List Text) → AllByRecursion (IsNormal PrivateSubtag) ws →
    IfSome (private_form ws) (λ e. (lower_singleton e ≡ code_x) × IsPrivate e.1)
private_rule [] h = tt
private_rule (w ∷ ws) h = grind (arith, all_weaker)

module _ {T : ℕ → Bool} (M : Locale) (h : IsValue T M) (g : IsTreeWellFormed M) where
  entries : AllByRecursion IsOtherEntry M.extensions.others
  entries =
      all_weaker (λ o. (((is_other_singleton o.0 ≡ true) × (to_ascii_lowercase o.0 ≡ o.0)) × (0 < length o.1))
      × AllByRecursion (IsNormal Subtag) o.1) IsOtherEntry (λ o x. (x.0.0, x.0.1, x.1)) M.extensions.others
      (all_both _ _ M.extensions.others (all_both _ _ M.extensions.others g.singletons g.nonempty)
      h.extensions.others)

  abbrev before : Others
  before = before_t M.extensions.others

  abbrev after : Others
  after = after_t M.extensions.others

  entries_before : AllByRecursion IsOtherEntry before
  entries_before = all_before IsOtherEntry M.extensions.others entries

  entries_after : AllByRecursion IsOtherEntry after
  entries_after = all_after IsOtherEntry M.extensions.others entries

  abbrev has_t : Bool
  has_t = is_some M.extensions.transform.id || nat_lt 0 (length M.extensions.transform.fields)

  abbrev has_u : Bool
  has_u = nat_lt 0 (length M.extensions.unicode.attributes + length M.extensions.unicode.keywords)

  abbrev t_part : List (ℕ × Extension)
  t_part = cond has_t ((code_t, transform (spelled_transform M.extensions.transform)) ∷ []) []

  abbrev u_part : List (ℕ × Extension)
  u_part = cond has_u ((code_u, unicode (spelled_unicode M.extensions.unicode)) ∷ []) []

  abbrev extensions : List (ℕ × Extension)
  extensions = plain_form before ++ (t_part ++ (u_part ++ plain_form after))

  extensions_are : (printed M).extensions ≡ extensions
  extensions_are = search (others_form_is, all_before, entries, all_after)

  -- a fact of each part is a fact of all
  all_extensions : (P : ℕ × Extension → Type 0) → AllByRecursion P (plain_form before) →
      (has_t ≡ true → P (code_t, transform (spelled_transform M.extensions.transform))) →
      (has_u ≡ true → P (code_u, unicode (spelled_unicode M.extensions.unicode))) →
      AllByRecursion P (plain_form after) → AllByRecursion P extensions
  all_extensions P a b c d = search (all_append, all_if)

  rules : AllByRecursion (λ e. IsExtension T (lower_singleton e) e.1 × OfWords e.1) extensions
  rules = search (
    all_extensions,
    all_plain,
    other_rule,
    entries_before,
    value_transform,
    transform_nonempty,
    value_unicode,
    ltb-true,
    entries_after,
  )

  lower_singletons : by_singleton extensions ≡ extensions
  lower_singletons =
      map_fixed (λ e. (lower_singleton e, e.1)) extensions (all_extensions (λ e. (lower_singleton e, e.1) ≡ e)
      (all_plain (λ e. (lower_singleton e, e.1) ≡ e) IsOtherEntry (λ o x i. (x.0.1 i, other o.1)) before
      entries_before) (λ _. refl) (λ _. refl)
      (all_plain (λ e. (lower_singleton e, e.1) ≡ e) IsOtherEntry (λ o x i. (x.0.1 i, other o.1)) after
      entries_after))

  below_t : AllByRecursion (λ e. e.0 < code_t) (plain_form before)
  below_t = all_plain (λ e. e.0 < code_t) (λ o. IsOtherEntry o × (o.0 ≤ code_t))
      (grind (arith, no_t))
      (before_t M.extensions.others) (search (all_both, all_before, entries, before_le))

  above_u : AllByRecursion (λ e. 118 ≤ e.0) (plain_form after)
  above_u = all_plain (λ e. 118 ≤ e.0) (λ o. IsOtherEntry o × (code_t < o.0))
      (grind (arith, no_u))
      (after_t M.extensions.others) (all_both IsOtherEntry (λ o. code_t < o.0) (after_t M.extensions.others)
      (all_after IsOtherEntry M.extensions.others entries) (after_gt M.extensions.others g.ascending))

  in_order : is_sorted nat_cmp extensions ≡ true
  in_order =
      let u : is_sorted nat_cmp (u_part ++ plain_form after) ≡ true = sorted_append 118 u_part
      (plain_form after) (sorted_if has_u _) (all_if (λ e. e.0 < 118) has_u _ (λ _. omega arith))
      (search (sorted_plain, sorted_after)) above_u in
      let t : is_sorted nat_cmp (t_part ++ (u_part ++ plain_form after)) ≡ true =
      sorted_append code_u t_part _ (sorted_if has_t _)
      (all_if (λ e. e.0 < code_u) has_t _ (λ _. omega arith)) u
      (grind (arith, all_append, all_if, all_weaker, above_u)) in
      sorted_append code_t (plain_form before) _
      (search (sorted_plain, sorted_before)) below_t t
      (grind (arith, all_append, all_if, all_weaker, above_u))

  find_t : find nat_cmp code_t extensions
      ≡ cond has_t (Some (transform (spelled_transform M.extensions.transform))) None
  find_t = grind (arith, find_skip, all_weaker, below_t, find_if, all_append, all_if, above_u)

  find_u : find nat_cmp code_u extensions
      ≡ cond has_u (Some (unicode (spelled_unicode M.extensions.unicode))) None
  find_u = grind (arith, find_skip, all_weaker, below_t, all_if, find_if, above_u)

  others_back : filter_map other_part extensions ≡ M.extensions.others
  others_back = search (filter_map-append, parts_plain, entries_before, no_parts, entries_after, before-after)

  grammatical : IsWritten T (printed M)
  grammatical = record {
    id = value_identifier M.id h.id;
    extensions = grind (arith, extensions_are, all_weaker, rules);
    different = rw extensions_are (subst (AllDifferent nat_cmp) (keys_lower extensions lower_singletons)
        (sorted_different nat_cmp extensions in_order));
    private = private_rule M.extensions.private h.extensions.private;
  }
    where
      keys_twice : (es : List (ℕ × Extension)) →
          map (λ e. e.0) (by_singleton es) ≡ map (λ e. lower_singleton e) es
      keys_twice [] = refl
      keys_twice (e ∷ es) = ap (λ l. lower_singleton e ∷ l) (keys_twice es)

      keys_lower : (es : List (ℕ × Extension)) → by_singleton es ≡ es →
          map (λ e. e.0) es ≡ map (λ e. lower_singleton e) es
      keys_lower es e = ap (map (λ e. e.0)) (sym e) ∙ keys_twice es

  of_words : AllByRecursion (λ e. OfWords e.1) (printed M).extensions
  of_words = rw extensions_are (grind (arith, all_weaker, rules))

  spelled : pieces (tree_text M) ≡ spelling (printed M)
  spelled = pieces_spelled (printed M) grammatical of_words

  -- what holds of each word and of each singleton holds of each piece of the text
  pub printed_each : (P : Text → Type 0) → ((k : Kind) (p : Text) → IsWord k p → P p) →
      ((c : ℕ) → is_ascii_alphanumeric (to_ascii_lowercase c) ≡ true → P (c ∷ [])) →
      AllByRecursion P (spelling (printed M))
  printed_each P word singleton = search (written_each, grammatical, of_words)

  entries_are : by_singleton (printed M).extensions ≡ extensions
  entries_are = ap by_singleton extensions_are ∙ lower_singletons

  pub means_value : meaning (printed M) ≡ M
  means_value = grind (
    arith,
    normal_value,
    entries_are,
    find_u,
    unicode_back,
    normal_value_unicode,
    find_t,
    transform_back,
    normal_value_transform,
    private_back,
    others_back,
    map_of_sorted,
  )

  -- the printed text means the value
  pub reads_back : TreeMeans T (tree_text M) M
  reads_back = search (grammatical, spelled, means_value)

  -- what is found of the printed form
  pub printed_in_order : is_sorted nat_cmp (printed M).extensions ≡ true
  printed_in_order = ap (is_sorted nat_cmp) extensions_are ∙ in_order

  pub printed_t : find nat_cmp code_t (printed M).extensions
      ≡ cond (is_some M.extensions.transform.id || nat_lt 0 (length M.extensions.transform.fields))
      (Some (transform (spelled_transform M.extensions.transform))) None
  printed_t = ap (find nat_cmp code_t) extensions_are ∙ find_t

  pub printed_u : find nat_cmp code_u (printed M).extensions
      ≡ cond (nat_lt 0 (length M.extensions.unicode.attributes + length M.extensions.unicode.keywords))
      (Some (unicode (spelled_unicode M.extensions.unicode))) None
  printed_u = ap (find nat_cmp code_u) extensions_are ∙ find_u

  pub printed_other : (q : ℕ) → q ≢ code_t → q ≢ code_u →
      find nat_cmp q (printed M).extensions ≡ option_map other (find nat_cmp q M.extensions.others)
  printed_other q t u = ap (find nat_cmp q) extensions_are
      ∙ past (plain_form before) _ (plain_form after)
      (grind (arith, find_skip, all_if))
      ∙ ap (find nat_cmp q) (sym (map-append (λ o. (o.0, other o.1)) before after))
      ∙ plain_found (before ++ after)
      ∙ ap (λ os. option_map other (find nat_cmp q os)) (before-after M.extensions.others)
    where
      past : (xs ys zs : List (ℕ × Extension)) → find nat_cmp q ys ≡ find nat_cmp q zs →
          find nat_cmp q (xs ++ ys) ≡ find nat_cmp q (xs ++ zs)
      past [] ys zs e = e
      past (x ∷ xs) ys zs e = ap (cond (eq_by_cmp nat_cmp q x.0) (Some x.1)) (past xs ys zs e)

      plain_found : (os : Others) → find nat_cmp q (plain_form os) ≡ option_map other (find nat_cmp q os)
      plain_found [] = refl
      plain_found (o ∷ os) = cond-map (option_map other) _ _ refl refl (plain_found os)

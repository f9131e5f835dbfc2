-- A text is a locale or has exactly one fault.
use Rattle.std.proofs.Common.{◌≡◌, ◌⊎◌, inl, inr, ℕ, Bool, true, false, cond, not, ◌&&◌, ◌==◌, List, [], ◌∷◌, ◌++◌, map, flat_map, refl, sym, ap, ◌∙◌, arith, Option, Some, None, IfSome, MatchOption, Result, Ok, Err, MatchResult, option_to_list, append_assoc, append-nil}
use Rattle.std.specs.List.{AllByRecursion, list_any}
use Rattle.std.specs.Char.{is_ascii_alphanumeric, to_ascii_lowercase}
use Rattle.std.specs.Ordering.{nat_cmp, eq_by_cmp}
use Rattle.std.specs.declared.cmp.Ordering.{Ordering}
use Rattle.std.proofs.lemmas.Bool.{or_from, or_parts, cond_both, both_ways, eqb-false, cases_Bool, false_from_ne_true}
use Rattle.std.proofs.lemmas.Bool.Decides.{nat_tests}
use Rattle.std.proofs.lemmas.List.{map-append}
use Rattle.std.proofs.lemmas.List.Folds.{list_any-append}
use Rattle.iloc_spec_grammar.specs.Syntax.{LanguageLengths, Block, code_x, code_t, Text, pieces, Language, Script, Region, Variant, TransformKey, is_word, IsWord, AreLengths, lower, word_cmp, SpelledIdentifier, SpelledTransform, identifier_pieces, optional_pieces, transform_pieces, HasWords, IsIdentifier, lower_singleton, AllDifferent, front, blocks, head, tail_blocks, first_piece, IsPrivate}
use Rattle.iloc_spec_grammar.specs.Tree.{Extension, Written, extension_block, block_pieces, blocks_of, spelling, IsTransformBlock, IsExtension, IsWritten, TreeMeans, meaning, HasSingleton, IsNew, IsBlock, TreeBlockFault, no_singleton, duplicated, breaks_rule, FirstBadBlock, here, later, HasTreeFault, no_language, no_identifier, bad_block}
use Rattle.iloc_spec_grammar.specs.Meaning.{Locale, Fault, InvalidLanguage, InvalidSubtag, InvalidExtension, DuplicatedExtension, SpellsIdentifier, RepeatsVariant}
use Rattle.iloc_spec_grammar.specs.Reading.{passing, past, identifier_of, front_of, after_front, before_key, extensions_in, private_in, written_of}
use Rattle.iloc_spec_grammar.specs.Computing.{is_identifier, is_block, repeats_variant, first_fault, unless_fault, locale_result}
use Rattle.iloc_spec_grammar.proofs.WordsLaws.{region_no_script, variant_no_script, variant_no_region}
use Rattle.iloc_spec_grammar.proofs.IdentifierLaws.{pieces-identifier_of, identifier_of-pieces}
use Rattle.iloc_spec_grammar.proofs.ReadingLaws.{all_while, take_first_passes, keep_while_passes, front_words, pieces-front_of}
use Rattle.iloc_spec_grammar.proofs.Readings.{identifier_no_key, optional_no_key, fields_pass, before_key_read, is_no_x, head-spelling, blocks-spelling, pieces-extension_of, pieces-transform_of, written_of-spelling}
use Rattle.iloc_spec_grammar.proofs.RuleTests.{Tests, tests_not, tests_fails, tests_denied, tests_word, tests_and, tests_like, tests_different, tests_nat, tests_spelled, tests_block, identifier_read, extension_read}
use Rattle.iloc_spec_grammar.proofs.PiecesLaws.{at_pieces}
use Rattle.iloc_spec_grammar.proofs.Singletons.{tied_back, untied, two_more}
use Rattle.iloc_spec_grammar.proofs.General.{all_of}

-- variants that repeat

pub some_repeat : {X : Type 0} (cmp : X → X → Ordering) (xs ys : List X) → AllDifferent cmp (xs ++ ys) →
    AllDifferent cmp xs
some_repeat cmp [] ys h = tt
some_repeat cmp (x ∷ xs) ys h =
    grind (arith, both_ways, or_parts, list_any-append, false_from_ne_true, some_repeat cmp xs ys h.1)

-- the variants at the front of the pieces, and the pieces after them
abbrev pub front_variants : List Text → List Text
front_variants ps = passing (is_word Variant) ps

abbrev pub after_variants : List Text → List Text
after_variants ps = past (is_word Variant) ps

pub front_are_variants : (ps : List Text) → AllByRecursion (IsWord Variant) (front_variants ps)
front_are_variants ps = keep_while_passes (is_word Variant) ps

pub front_longest : (vs rest : List Text) → AllByRecursion (IsWord Variant) vs →
    front_variants (vs ++ rest) ≡ vs ++ front_variants rest
front_longest [] rest h = refl
front_longest (v ∷ vs) rest h = search (front_longest vs rest h.1)

-- an identifier with variants is read from the left, whatever follows
pub read_longer : (l : Text) (s r : Option Text) (v : Text) (vs rest : List Text) →
    IfSome s (IsWord Script) → IfSome r (IsWord Region) → IsWord Variant v →
    identifier_of ((l ∷ (option_to_list s ++ (option_to_list r ++ (v ∷ vs)))) ++ rest)
    ≡ record { language = l; script = s; region = r; variants = v ∷ (vs ++ rest) }
unfolding identifier_of
read_longer l None None v vs rest hs hr hv = rw (variant_no_script v hv, variant_no_region v hv)
read_longer l None (Some r) v vs rest hs hr hv = rw (region_no_script r hr, hr)
read_longer l (Some s) None v vs rest hs hr hv = rw (hs, variant_no_region v hv)
read_longer l (Some s) (Some r) v vs rest hs hr hv = rw (hs, hr)

-- the words of a reading, its variants cut where they end
abbrev pub cut_identifier : SpelledIdentifier → SpelledIdentifier
cut_identifier i = record i { variants = front_variants i.variants }

pub repeats_longer : {T : ℕ → Bool} (i : SpelledIdentifier) (rest : List Text) → HasWords T i →
    ¬ (AllDifferent word_cmp (map lower i.variants)) →
    (identifier_of (identifier_pieces i ++ rest)).variants ≡ i.variants ++ rest
repeats_longer i rest h d = from i.language i.script i.region i.variants h.script h.region h.variants d
  where
    from : (l : Text) (s r : Option Text) (vs : List Text) → IfSome s (IsWord Script) →
        IfSome r (IsWord Region) → AllByRecursion (IsWord Variant) vs →
        ¬ (AllDifferent word_cmp (map lower vs)) →
        (identifier_of ((l ∷ (option_to_list s ++ (option_to_list r ++ vs))) ++ rest)).variants ≡ vs ++ rest
    from l s r [] hs hr hv d = absurd (d tt)
    from l s r (v ∷ vs) hs hr hv d =
        search read_longer

pub language_of : (p : Text) (ps : List Text) → (identifier_of (p ∷ ps)).language ≡ p
unfolding identifier_of
language_of p ps = refl

pub script_of : (p : Text) (ps : List Text) → IfSome (identifier_of (p ∷ ps)).script (IsWord Script)
unfolding identifier_of
script_of p ps = take_first_passes (is_word Script) ps

pub region_of : (p : Text) (ps : List Text) → IfSome (identifier_of (p ∷ ps)).region (IsWord Region)
unfolding identifier_of
region_of p ps = search take_first_passes

pub spell_cut : (i : SpelledIdentifier) →
    identifier_pieces (cut_identifier i) ++ after_variants i.variants ≡ identifier_pieces i
spell_cut i = simp (append_assoc, all_while)

-- the variants at the front of the pieces after a language decide

repeats_found : (T : LanguageLengths) (ps : List Text) →
    IsWord (Language T) (first_piece ps) × ¬ (AllDifferent word_cmp (map lower (front_of ps).variants)) →
    RepeatsVariant T ps
unfolding front_of
repeats_found T [] x = absurd (x.1 tt)
repeats_found T (p ∷ ps) x =
    (front_of (p ∷ ps), after_front (p ∷ ps), front_words (p ∷ ps) x.0, sym (pieces-front_of p ps), x.1)

pub tests_repeats : (T : LanguageLengths) (ps : List Text) →
    Tests (repeats_variant T ps) (RepeatsVariant T ps)
unfolding front_of identifier_of
tests_repeats T ps = tests_like (repeats_found T ps) (grind
    (arith, repeats_longer, front_longest, some_repeat, map-append))
    (search (tests_and, tests_word, tests_denied, tests_different))

-- a transform whose identifier is good repeats no variant

before_no_key : (xs ys : List Text) → AllByRecursion (λ p. is_word TransformKey p ≡ false) xs →
    before_key (is_word TransformKey) (xs ++ ys) ≡ xs ++ before_key (is_word TransformKey) ys
before_no_key [] ys h = refl
before_no_key (x ∷ xs) ys h = search (before_no_key xs ys h.1)

good_no_repeat : (T : LanguageLengths) (m : SpelledTransform) → IsTransformBlock T m →
    ¬ (RepeatsVariant T (transform_pieces m))
good_no_repeat T m h r = at_id m.id h.id (sym (search (before_key_read, optional_no_key, fields_pass))
    ∙ ap (before_key (is_word TransformKey)) r.3
    ∙ before_no_key (identifier_pieces r.0) r.1 (identifier_no_key r.0 r.2))
  where
    at_id : (o : Option SpelledIdentifier) → IfSome o (IsIdentifier T) →
        optional_pieces o ≡ identifier_pieces r.0 ++ before_key (is_word TransformKey) r.1 → ⊥
    at_id None g e = cc
    at_id (Some j) g e =
        grind (arith, identifier_of-pieces, repeats_longer, some_repeat, map-append)

pub block_no_repeat : (T : LanguageLengths) (b : Block) → lower_singleton b ≡ code_t → IsBlock T b →
    ¬ (RepeatsVariant T b.1)
block_no_repeat T b e (inl x) r = absurd (let k = x.0 in omega arith)
block_no_repeat T b e (inr x) r = grind (arith, extension_read, good_no_repeat, pieces-transform_of)

-- blocks one after another

abbrev pub AreGood : (ℕ → Bool) → List ℕ → List Block → Type 0
AreGood T seen [] = Unit {0}
AreGood T seen (b ∷ bs) =
    (HasSingleton b × IsNew seen b × IsBlock T b) × AreGood T (lower_singleton b ∷ seen) bs

tests_variant_twice : (T : LanguageLengths) (b : Block) →
    Tests ((lower_singleton b == code_t) && repeats_variant T b.1)
    ((lower_singleton b ≡ code_t) × RepeatsVariant T b.1)
tests_variant_twice T b = search (tests_and, tests_nat, tests_repeats)

-- the plain program finds the first bad block

first_is : (T : LanguageLengths) (seen : List ℕ) (bs : List Block) →
    MatchOption (first_fault T seen bs) (AreGood T seen bs) (FirstBadBlock T seen bs)
first_is T seen [] = tt
first_is T seen (b ∷ bs) =
    at_tests (is_ascii_alphanumeric b.0) refl (list_any (eq_by_cmp nat_cmp (lower_singleton b)) seen) refl
    (is_block T b) refl ((lower_singleton b == code_t) && repeats_variant T b.1) refl
    (first_fault T (lower_singleton b ∷ seen) bs) (first_is T (lower_singleton b ∷ seen) bs)
  where
    at_tests : (a : Bool) → is_ascii_alphanumeric b.0 ≡ a → (s : Bool) →
        list_any (eq_by_cmp nat_cmp (lower_singleton b)) seen ≡ s → (g : Bool) → is_block T b ≡ g →
        (r : Bool) → ((lower_singleton b == code_t) && repeats_variant T b.1) ≡ r → (o : Option Fault) →
        MatchOption o (AreGood T (lower_singleton b ∷ seen) bs)
        (FirstBadBlock T (lower_singleton b ∷ seen) bs)
        → MatchOption
        (cond (not a) (Some InvalidExtension)
        (cond s (Some DuplicatedExtension) (cond g o (cond r (Some InvalidSubtag) (Some InvalidExtension)))))
        (AreGood T seen (b ∷ bs)) (FirstBadBlock T seen (b ∷ bs))
    at_tests false a s e g d r k o rest = here (no_singleton a)
    at_tests true a true e g d r k o rest = here (duplicated a e)
    at_tests true a false e true d r k None rest = ((a, e, (tests_block T b).holds d), rest)
    at_tests true a false e true d r k (Some f) rest = later a e ((tests_block T b).holds d) rest
    at_tests true a false e false d true k o rest =
        let x = (tests_variant_twice T b).holds k in here (TreeBlockFault.repeats_variant a e x.0 x.1)
    at_tests true a false e false d false k o rest =
        here (breaks_rule a e (tests_not (tests_variant_twice T b) k) (tests_not (tests_block T b) d))

good_first : (T : LanguageLengths) (seen : List ℕ) (bs : List Block) → AreGood T seen bs →
    first_fault T seen bs ≡ None
good_first T seen [] g = refl
good_first T seen (b ∷ bs) g =
    rw (g.0.0, g.0.1, (tests_block T b).passes g.0.2) (good_first T (lower_singleton b ∷ seen) bs g.1)

fault_first : (T : LanguageLengths) {seen : List ℕ} {bs : List Block} {f : Fault} →
    FirstBadBlock T seen bs f → first_fault T seen bs ≡ Some f
fault_first T (here (no_singleton e)) = rw e
fault_first T (here (duplicated a e)) = rw (a, e)
fault_first T (here {b = b} (TreeBlockFault.repeats_variant a e t r)) = rw (
  a,
  e,
  tests_fails (tests_block T b) (λ g. block_no_repeat T b t g r),
  (tests_variant_twice T b).passes (t, r),
)
fault_first T (here {b = b} (breaks_rule a e n d)) =
    rw (a, e, tests_fails (tests_block T b) d, tests_fails (tests_variant_twice T b) n)
fault_first T (later {b = b} a e g x) = rw (a, e, (tests_block T b).passes g) (fault_first T x)

-- the blocks of a locale are good

abbrev pub NotSeen : {X : Type 0} → List ℕ → List (ℕ × X) → Type 0
NotSeen seen es = AllByRecursion (λ e. list_any (eq_by_cmp nat_cmp (lower_singleton e)) seen ≡ false) es

see_one : {X : Type 0} (s : ℕ) (seen : List ℕ) (es : List (ℕ × X)) →
    list_any (eq_by_cmp nat_cmp s) (map (λ e. lower_singleton e) es) ≡ false → NotSeen seen es →
    NotSeen (s ∷ seen) es
see_one s seen [] h n = tt
see_one s seen (e ∷ es) h n = let parts = or_parts _ _ h in grind (arith, see_one s seen es parts.1 n.1)

pub unsee_one : {X : Type 0} (s : ℕ) (seen : List ℕ) (es : List (ℕ × X)) → NotSeen (s ∷ seen) es →
    (list_any (eq_by_cmp nat_cmp s) (map (λ e. lower_singleton e) es) ≡ false) × NotSeen seen es
unsee_one s seen [] n = (refl, tt)
unsee_one s seen (e ∷ es) n = grind (arith, or_parts, or_from, tied_back, unsee_one s seen es n.1)

pub letter : (c : ℕ) → is_ascii_alphanumeric (to_ascii_lowercase c) ≡ true → is_ascii_alphanumeric c ≡ true
letter c h = grind (arith, nat_tests)

-- blocks that follow their rules are good where their singletons differ
pub good_from : (T : LanguageLengths) (seen : List ℕ) (bs : List Block) →
    AllByRecursion (λ b. HasSingleton b × IsBlock T b) bs →
    AllDifferent nat_cmp (map (λ b. lower_singleton b) bs) → NotSeen seen bs → AreGood T seen bs
good_from T seen [] h d n = tt
good_from T seen (b ∷ bs) h d n = (
  (h.0.0, n.0, h.0.1),
  good_from T (lower_singleton b ∷ seen) bs h.1 d.1
      (search (see_one, false_from_ne_true)),
)

pub block_rules : (T : LanguageLengths) (es : List (ℕ × Extension)) (x : Option Block) →
    AllByRecursion (λ e. IsExtension T (lower_singleton e) e.1) es →
    IfSome x (λ e. (lower_singleton e ≡ code_x) × IsPrivate e.1) →
    AllByRecursion (λ b. HasSingleton b × IsBlock T b) (map extension_block es ++ option_to_list x)
block_rules T [] None h k = tt
block_rules T [] (Some b) h k = ((letter b.0 (rw k.0), inl k), tt)
block_rules T (e ∷ es) x h k = grind (arith, block_rules T es x h.1 k)

any_by : (T : LanguageLengths) (c : ℕ) (es : List (ℕ × Extension)) (x : Option Block) →
    eq_by_cmp nat_cmp c code_x ≡ false →
    list_any (eq_by_cmp nat_cmp c) (map (λ e. lower_singleton e) es) ≡ false →
    IfSome x (λ e. (lower_singleton e ≡ code_x) × IsPrivate e.1) →
    list_any (eq_by_cmp nat_cmp c) (map (λ b. lower_singleton b) (map extension_block es ++ option_to_list x))
    ≡ false
any_by T c [] None n a k = refl
any_by T c [] (Some b) n a k = cc
any_by T c (e ∷ es) x n a k = let parts = or_parts _ _ a in or_from _ _ parts.0 (any_by T c es x n parts.1 k)

pub different_by : (T : LanguageLengths) (es : List (ℕ × Extension)) (x : Option Block) →
    AllByRecursion (λ e. IsExtension T (lower_singleton e) e.1) es →
    AllDifferent nat_cmp (map (λ e. lower_singleton e) es) →
    IfSome x (λ e. (lower_singleton e ≡ code_x) × IsPrivate e.1) →
    AllDifferent nat_cmp (map (λ b. lower_singleton b) (map extension_block es ++ option_to_list x))
different_by T [] None h d k = tt
different_by T [] (Some b) h d k = (both_ways _ refl, tt)
different_by T (e ∷ es) x h d k = grind (
  arith,
  both_ways,
  any_by,
  false_from_ne_true,
  untied,
  eqb-false,
  is_no_x,
  different_by T es x h.1 d.1 k,
)

pub written_good : {T : ℕ → Bool} (w : Written) → IsWritten T w → AreGood T [] (blocks_of w)
written_good {T = T} w h =
    good_from T [] (blocks_of w) (block_rules T w.extensions w.private h.extensions h.private)
    (different_by T w.extensions w.private h.extensions h.different h.private)
    (all_of _ (λ b. refl) (blocks_of w))

-- the blocks of a text

abbrev pub EndsAtX : List Block → Type 0
EndsAtX [] = Unit {0}
EndsAtX (b ∷ bs) = ((lower_singleton b == code_x) ≡ true → bs ≡ []) × EndsAtX bs

pub ends_at_x : (ps : List Text) → EndsAtX (blocks ps)
ends_at_x [] = tt
ends_at_x ([] ∷ ps) = ends_at_x ps
ends_at_x ((c ∷ []) ∷ ps) = grind (arith, cond_both, both_ways, ends_at_x ps)
ends_at_x ((c ∷ d ∷ p) ∷ ps) = ends_at_x ps

pub tail_ends : (ps : List Text) → EndsAtX (tail_blocks ps)
tail_ends [] = tt
tail_ends (p ∷ ps) = ends_at_x ps

pub all_blocks : (ps : List Text) → front ps ++ flat_map block_pieces (blocks ps) ≡ ps
all_blocks [] = refl
all_blocks ([] ∷ ps) = ap (λ l. [] ∷ l) (all_blocks ps)
all_blocks ((c ∷ []) ∷ ps) = grind (arith, cond_both, append-nil, all_blocks ps)
all_blocks ((c ∷ d ∷ p) ∷ ps) = rw (two_more, all_blocks ps)

pub head-and-blocks : (p : Text) (ps : List Text) →
    head (p ∷ ps) ++ flat_map block_pieces (tail_blocks (p ∷ ps)) ≡ p ∷ ps
head-and-blocks p ps = ap (λ l. p ∷ l) (all_blocks ps)

-- reading keeps each piece

extensions_kept : (bs : List Block) → EndsAtX bs →
    map extension_block (extensions_in bs) ++ option_to_list (private_in bs) ≡ bs
extensions_kept [] e = refl
extensions_kept (b ∷ bs) e = grind (arith, cases_Bool, pieces-extension_of, extensions_kept bs e.1)

pub spelling-written_of : (p : Text) (ps : List Text) → spelling (written_of (p ∷ ps)) ≡ p ∷ ps
unfolding written_of
spelling-written_of p ps = grind (arith, pieces-identifier_of, extensions_kept, ends_at_x)
    ∙ head-and-blocks p ps

pub pieces-written_of : (t : Text) → pieces t ≡ spelling (written_of (pieces t))
pieces-written_of t =
    at_pieces (λ ps. ps ≡ spelling (written_of ps)) (λ p ps. sym (spelling-written_of p ps)) t

-- what is read of good blocks follows the rules
record AreRead (T : LanguageLengths) (seen : List ℕ) (es : List (ℕ × Extension)) (x : Option Block) :
    Type 0 where
  rules : AllByRecursion (λ e. IsExtension T (lower_singleton e) e.1) es
  different : AllDifferent nat_cmp (map (λ e. lower_singleton e) es)
  unseen : NotSeen seen es
  private : IfSome x (λ e. (lower_singleton e ≡ code_x) × IsPrivate e.1)

are_read : (T : LanguageLengths) (seen : List ℕ) (bs : List Block) → AreGood T seen bs →
    AreRead T seen (extensions_in bs) (private_in bs)
are_read T seen [] g = search
are_read T seen (b ∷ bs) g = at_block g.0.2 (are_read T (lower_singleton b ∷ seen) bs g.1)
  where
    at_block : IsBlock T b → AreRead T (lower_singleton b ∷ seen) (extensions_in bs) (private_in bs) →
        AreRead T seen (extensions_in (b ∷ bs)) (private_in (b ∷ bs))
    at_block (inl p) r = grind (arith)
    at_block (inr q) r =
        let parts = unsee_one (lower_singleton b) seen (extensions_in bs) r.unseen in
        rw (is_no_x T (lower_singleton b) q.0 q.1) (search (extension_read, both_ways))

-- good blocks make a locale

pub good_written : (T : LanguageLengths) (t : Text) → SpellsIdentifier T (head (pieces t)) →
    AreGood T [] (tail_blocks (pieces t)) → IsWritten T (written_of (pieces t))
unfolding written_of
good_written T t s g = let r = are_read T [] (tail_blocks (pieces t)) g in
    search identifier_read

pub good_means : (T : LanguageLengths) (t : Text) → SpellsIdentifier T (head (pieces t)) →
    AreGood T [] (tail_blocks (pieces t)) → TreeMeans T t (meaning (written_of (pieces t)))
good_means T t s g = grind (arith, good_written, pieces-written_of)

pub blocks_read : (ps : List Text) → blocks_of (written_of ps) ≡ tail_blocks ps
unfolding written_of
blocks_read ps = extensions_kept (tail_blocks ps) (tail_ends ps)

-- the plain program answers a meaning or a fault

pub either : {A E : Type 0} {P : A → Type 0} {Q : E → Type 0} (r : Result A E) → MatchResult r P Q →
    ((a : A) × P a) ⊎ ((e : E) × Q e)
either (Ok a) m = inl (a, m)
either (Err e) m = inr (e, m)

tests_head : (T : LanguageLengths) (t : Text) →
    Tests (is_identifier T (identifier_of (head (pieces t)))) (SpellsIdentifier T (head (pieces t)))
tests_head T t =
    at_pieces (λ ps. Tests (is_identifier T (identifier_of (head ps))) (SpellsIdentifier T (head ps)))
    (λ p ps. tests_spelled T p (front ps)) t

-- of an accepted text it answers whatever holds of what is read, where good blocks make it hold
pub answered_by : (T : LanguageLengths) (t : Text) (P : Locale → Type 0) →
    (SpellsIdentifier T (head (pieces t)) → AreGood T [] (tail_blocks (pieces t)) →
    P (meaning (written_of (pieces t)))) →
    MatchResult (locale_result T t) P (HasTreeFault T t)
unfolding locale_result
answered_by T t P from = at_tests (is_word (Language T) (first_piece (pieces t))) refl
    (is_identifier T (identifier_of (head (pieces t)))) refl (first_fault T [] (tail_blocks (pieces t)))
    (first_is T [] (tail_blocks (pieces t)))
  where
    at_tests : (l : Bool) → is_word (Language T) (first_piece (pieces t)) ≡ l → (i : Bool) →
        is_identifier T (identifier_of (head (pieces t))) ≡ i → (o : Option Fault) →
        MatchOption o (AreGood T [] (tail_blocks (pieces t))) (FirstBadBlock T [] (tail_blocks (pieces t)))
        → MatchResult
        (cond (not l) (Err InvalidLanguage)
        (cond (not i) (Err InvalidSubtag) (unless_fault o (meaning (written_of (pieces t)))))) P
        (HasTreeFault T t)
    at_tests false l i k o g = no_language l
    at_tests true l false k o g = no_identifier l (tests_not (tests_head T t) k)
    at_tests true l true k None g = from ((tests_head T t).holds k) g
    at_tests true l true k (Some f) g = bad_block ((tests_head T t).holds k) g

pub answered : (T : LanguageLengths) (t : Text) →
    MatchResult (locale_result T t) (TreeMeans T t) (HasTreeFault T t)
answered T t = answered_by T t (TreeMeans T t) (good_means T t)

-- and each meaning and each fault is answered

pub means_answered : {T : ℕ → Bool} → AreLengths T → (t : Text) (M : Locale) → TreeMeans T t M →
    locale_result T t ≡ Ok M
unfolding locale_result
means_answered {T = T} table t M m =
    let w = m.written in let h = m.grammatical in
    rw (
      ap (λ ps. is_word (Language T) (first_piece ps)) m.spelled ∙ h.id.words.language,
      (tests_head T t).passes (w.id, h.id, ap head m.spelled ∙ head-spelling w h),
      good_first T [] (tail_blocks (pieces t)) (grind (arith, blocks-spelling, written_good)),
    ) (grind (arith, written_of-spelling))

pub fault_answered : (T : LanguageLengths) (t : Text) {f : Fault} → HasTreeFault T t f →
    locale_result T t ≡ Err f
unfolding locale_result
fault_answered T t (no_language e) = rw e
fault_answered T t (no_identifier l n) = rw (l, tests_fails (tests_head T t) n)
fault_answered T t (bad_block s b) = rw (
  at_pieces (λ ps. SpellsIdentifier T (head ps) → IsWord (Language T) (first_piece ps))
      (grind arith) t s,
  (tests_head T t).passes s,
  fault_first T b,
)

pub accepted_no_fault : {T : ℕ → Bool} → AreLengths T → (t : Text) (M : Locale) (f : Fault) →
    TreeMeans T t M → HasTreeFault T t f → ⊥
accepted_no_fault {T = T} table t M f m h = cc (means_answered table t M m, fault_answered T t h)

pub one_fault : {T : ℕ → Bool} (t : Text) {f g : Fault} → HasTreeFault T t f → HasTreeFault T t g → f ≡ g
one_fault {T = T} t h k = cc (fault_answered T t h, fault_answered T t k)

-- One block more: what it adds to what was read, and which singletons were read.
use Rattle.std.proofs.Common.{◌≡◌, ℕ, suc, ◌+◌, ◌<◌, Bool, true, false, cond, ◌&&◌, not, ◌==◌, List, [], ◌∷◌, length, map, refl, sym, ap, ◌∙◌, subst, arith, Option, Some, None, is_some, option_map, true≢false}
use Rattle.std.specs.Prelude.{if◌then◌else◌}
use Rattle.std.specs.List.{list_any}
use Rattle.std.specs.Char.{is_ascii_alphanumeric}
use Rattle.std.specs.Ordering.{nat_cmp, eq_by_cmp}
use Rattle.std.specs.declared.cmp.Ordering.{Ordering}
use Rattle.std.specs.Cmp.{nat_cmp_total}
use Rattle.std.specs.FinMap.{find, put}
use Rattle.std.specs.FinMap.Entries.{is_some-find}
use Rattle.std.proofs.lemmas.Bool.Decides.{nat_tests}
use Rattle.iloc_spec_grammar.specs.Syntax.{code_x, code_u, code_t, Text, lower, word_cmp, SpelledIdentifier, Unicode, Transform, Fields, kept, lower_singleton, is_other_singleton, IsPrivate}
use Rattle.iloc_spec_grammar.specs.Tree.{by_singleton}
use Rattle.iloc_spec_grammar.specs.Meaning.{Extensions, map_of, set_of, normal_fields, normal_identifier, no_unicode, no_transform, other_blocks}
use Rattle.iloc_spec_grammar.specs.ByBlocks.{UnicodeMeans, TransformMeans, PrivateMeans, grammar_rules, PartIs, BlocksGive}
use Rattle.iloc_spec_grammar.proofs.MapLaws.{find-map_of}
use Rattle.iloc_extensions.specs.Blocks.{is_read}
use Rattle.iloc_spec_grammar.proofs.Singletons.{tied, no_u, no_t, no_x, IsKind, of_u, of_t, of_x, another, kind_of}
use Rattle.iloc_extensions.proofs.DoneLaws.{letter_keys}

-- what is put into a map is there

not_zero : (n : ℕ) → (suc n == 0) ≡ false
not_zero n = grind (arith, nat_tests)

length-put : {K X : Type 0} (R : K → K → Ordering) (k : K) (v : X) (es : List (K × X)) →
    (length (put R k v es) == 0) ≡ false
length-put R k v [] = refl
length-put R k v (e ∷ es) = grind (arith, not_zero)

length-keys : {K X : Type 0} (es : List (K × X)) → length (map (λ e. e.0) es) ≡ length es
length-keys [] = refl
length-keys (e ∷ es) = ap suc (length-keys es)

set_there : (w : Text) (ws : List Text) → (length (set_of (map lower (w ∷ ws))) == 0) ≡ false
set_there w ws =
    ap (λ n. n == 0) (length-keys (map_of word_cmp (map (λ v. (v, v)) (map lower (w ∷ ws)))))
    ∙ length-put word_cmp (lower w) (lower w) (map_of word_cmp (map (λ v. (v, v)) (map lower ws)))

fields_there : (f : Text × List Text) (fs : Fields) → (length (normal_fields (f ∷ fs)) == 0) ≡ false
fields_there f fs = length-put word_cmp _ _ (normal_fields fs)

-- a part that was read isn't empty

pub some_unicode : (ps : List Text) (v : Unicode) → UnicodeMeans ps v →
    ((length v.attributes == 0) && (length v.keywords == 0)) ≡ false
some_unicode ps v m = ap (λ (u : Unicode). (length u.attributes == 0) && (length u.keywords == 0)) m.means
    ∙ at m.written.attributes m.written.keywords m.grammatical.nonempty
  where
    at : (ws : List Text) (fs : Fields) → 0 < length ws + length fs →
        ((length (set_of (map lower ws)) == 0) && (length (normal_fields fs) == 0)) ≡ false
    at [] [] h = absurd (omega (arith, h))
    at [] (f ∷ fs) h = fields_there f fs
    at (w ∷ ws) fs h = ap (λ b. b && (length (normal_fields fs) == 0)) (set_there w ws)

pub some_transform : (T : ℕ → Bool) (ps : List Text) (v : Transform) → TransformMeans T ps v →
    (not (is_some v.id) && (length v.fields == 0)) ≡ false
some_transform T ps v m = ap (λ (u : Transform). not (is_some u.id) && (length u.fields == 0)) m.means
    ∙ at m.written.id m.written.fields m.grammatical.nonempty
  where
    at : (o : Option SpelledIdentifier) (fs : Fields) → (o ≡ None → 0 < length fs) →
        (not (is_some (option_map normal_identifier o)) && (length (normal_fields fs) == 0)) ≡ false
    at (Some i) fs h = refl
    at None [] h = absurd (let l = h refl in omega (arith, l))
    at None (f ∷ fs) h = fields_there f fs

pub some_private : (ps ws : List Text) → IsPrivate ps → ws ≡ map lower ps → (length ws == 0) ≡ false
some_private [] ws h e = grind arith
some_private (p ∷ ps) ws h e = grind (arith, not_zero)

-- singletons that were read

known : (T : ℕ → Bool) (q : ℕ) (ds : List (ℕ × List Text)) →
    is_some (find nat_cmp q (by_singleton ds))
    ≡ list_any (eq_by_cmp nat_cmp q) (map (λ b. lower_singleton b) ds)
known T q ds = is_some-find nat_cmp q (by_singleton ds) ∙ ap (list_any (eq_by_cmp nat_cmp q)) (letter_keys ds)

part_known : {X : Type 0} (Rule : List Text → X → Type 0) (is_empty : X → Bool) →
    ((ps : List Text) (v : X) → Rule ps v → is_empty v ≡ false) → (empty : X) → is_empty empty ≡ true →
    (o : Option (List Text)) (v : X) → PartIs Rule empty o v → not (is_empty v) ≡ is_some o
part_known Rule is_empty h empty k o v e = grind arith

same_test : (a b : ℕ) → (a == b) ≡ eq_by_cmp nat_cmp b a
same_test a b = grind (arith, nat_tests)

any_key : (q : ℕ) (os : List (ℕ × List Text)) → list_any (λ o. o.0 == q) os ≡ is_some (find nat_cmp q os)
any_key q [] = refl
any_key q (o ∷ os) = grind (arith, same_test, any_key q os)

others_known : (q : ℕ) (bs : List (ℕ × List Text)) → is_other_singleton q ≡ true →
    is_some (find nat_cmp q (map (λ b. (b.0, kept b.1)) (other_blocks bs)))
    ≡ is_some (find nat_cmp q (by_singleton bs))
others_known q [] h = refl
others_known q (b ∷ bs) h = at (eq_by_cmp nat_cmp q (lower_singleton b))
    (is_other_singleton (lower_singleton b)) (others_known q bs h) refl refl
  where
    at : (t k : Bool) →
        is_some (find nat_cmp q (map (λ b. (b.0, kept b.1)) (other_blocks bs)))
        ≡ is_some (find nat_cmp q (by_singleton bs)) →
        eq_by_cmp nat_cmp q (lower_singleton b) ≡ t → is_other_singleton (lower_singleton b) ≡ k
        → is_some (find nat_cmp q (map (λ b. (b.0, kept b.1)) (cond k
        ((lower_singleton b, b.1) ∷ other_blocks bs) (other_blocks bs))))
        ≡ is_some (cond t (Some b.1) (find nat_cmp q (by_singleton bs)))
    at true true more e k = ap (λ t. is_some (cond t (Some (kept b.1))
        (find nat_cmp q (map (λ b. (b.0, kept b.1)) (other_blocks bs))))) e
    at true false more e k =
        absurd (true≢false (sym h ∙ ap is_other_singleton (sym (tied q (lower_singleton b) e)) ∙ k))
    at false true more e k = ap (λ t. is_some (cond t (Some (kept b.1))
        (find nat_cmp q (map (λ b. (b.0, kept b.1)) (other_blocks bs))))) e
        ∙ more
    at false false more e k = more

is_read-other : (M : Extensions) (c : ℕ) → is_other_singleton c ≡ true →
    is_read M c ≡ list_any (λ o. o.0 == c) M.others
is_read-other M c h = at (c == code_u) (c == code_t) (c == code_x) (no c code_u h (λ e. no_u c e h))
    (no c code_t h (λ e. no_t c e h)) (no c code_x h (λ e. no_x c e h))
  where
    no : (c k : ℕ) → is_other_singleton c ≡ true → (c ≡ k → ⊥) → (c == k) ≡ false
    no c k h n = grind (arith, nat_tests)

    at : (a b d : Bool) → a ≡ false → b ≡ false → d ≡ false →
        (if a then not ((length M.unicode.attributes == 0) && (length M.unicode.keywords == 0)) else
        if b then not (not (is_some M.transform.id) && (length M.transform.fields == 0)) else
        if d then not (length M.private == 0) else
        list_any (λ o. o.0 == c) M.others) ≡ list_any (λ o. o.0 == c) M.others
    at true b d e f g = absurd (true≢false e)
    at false true d e f g = absurd (true≢false f)
    at false false true e f g = absurd (true≢false g)
    at false false false e f g = refl

-- which singletons were read shows in the parts
pub read_is_known : (T : ℕ → Bool) (ds : List (ℕ × List Text)) (M : Extensions) (c : ℕ) →
    BlocksGive (grammar_rules T) ds M → is_ascii_alphanumeric c ≡ true →
    is_read M c ≡ list_any (eq_by_cmp nat_cmp c) (map (λ b. lower_singleton b) ds)
read_is_known T ds M c m h = at (kind_of c h) ∙ known T c ds
  where
    at : IsKind c → is_read M c ≡ is_some (find nat_cmp c (by_singleton ds))
    at (of_u e) = subst (λ (q : ℕ). is_read M q ≡ is_some (find nat_cmp q (by_singleton ds))) (sym e)
        (part_known UnicodeMeans (λ v. (length v.attributes == 0) && (length v.keywords == 0)) some_unicode
        no_unicode refl (find nat_cmp code_u (by_singleton ds)) M.unicode m.unicode)
    at (of_t e) = subst (λ (q : ℕ). is_read M q ≡ is_some (find nat_cmp q (by_singleton ds))) (sym e)
        (part_known (TransformMeans T) (λ v. not (is_some v.id) && (length v.fields == 0)) (some_transform T)
        no_transform refl (find nat_cmp code_t (by_singleton ds)) M.transform m.transform)
    at (of_x e) = subst (λ (q : ℕ). is_read M q ≡ is_some (find nat_cmp q (by_singleton ds))) (sym e)
        (part_known PrivateMeans (λ v. length v == 0) (λ ps ws h. some_private ps ws h.0 h.1) [] refl
        (find nat_cmp code_x (by_singleton ds)) M.private m.private)
    at (another o) =
        is_read-other M c o ∙ any_key c M.others ∙ ap (λ os. is_some (find nat_cmp c os)) m.others
        ∙ ap is_some
        (find-map_of nat_cmp nat_cmp_total c (map (λ b. (b.0, kept b.1)) (other_blocks ds)))
        ∙ others_known c ds o

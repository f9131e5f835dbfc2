-- The meaning of a text is the same by its blocks as by its tree.
use Rattle.std.proofs.Common.{◌≡◌, inl, inr, ℕ, ◌+◌, ◌<◌, Bool, true, false, ◌==◌, List, [], ◌∷◌, ◌++◌, length, map, refl, sym, ap, ◌∙◌, subst, arith, Option, Some, None, IfSome, append-nil}
use Rattle.std.specs.List.{AllByRecursion, list_any}
use Rattle.std.specs.Char.{is_ascii_alphanumeric}
use Rattle.std.specs.Ordering.{nat_cmp, eq_by_cmp}
use Rattle.std.specs.FinMap.{find}
use Rattle.std.proofs.lemmas.Bool.{or_parts, cond_both, false_from_ne_true, both_ways}
use Rattle.std.proofs.lemmas.Bool.Decides.{nat_tests}
use Rattle.iloc_spec_grammar.specs.Syntax.{LanguageLengths, Block, code_x, code_u, code_t, Text, pieces, AreLengths, PrivateSubtag, IsWord, lower, Spelled, SpelledIdentifier, SpelledUnicode, SpelledTransform, Fields, fields_pieces, unicode_pieces, transform_pieces, IsUnicode, IsTransform, IsOther, is_other_singleton, lower_singleton, AllDifferent, head, tail_blocks}
use Rattle.iloc_spec_grammar.specs.Tree.{Extension, unicode, transform, other, extension_pieces, IsExtension, TreeMeans, meaning, by_singleton, IsBlock, HasSingleton}
use Rattle.iloc_spec_grammar.specs.Meaning.{Locale, SpelledExtensions, Extensions, BlocksMean, Means, SpellsExtensions, AreBlocks, SpellsIdentifier, after, no_unicode, no_transform, normal_unicode, normal_transform, normal_extensions, other_blocks}
use Rattle.iloc_spec_grammar.specs.ByBlocks.{UnicodeMeans, TransformMeans, PrivateMeans, grammar_rules, PartIs, BlocksGive, MeansByBlocks}
use Rattle.iloc_spec_grammar.specs.Reading.{unicode_of, transform_of, written_of}
use Rattle.iloc_spec_grammar.proofs.Readings.{unicode_of-pieces, pieces-unicode_of, transform_of-pieces, pieces-transform_of}
use Rattle.iloc_spec_grammar.proofs.Readings as trees
use Rattle.iloc_spec_grammar.proofs.FaultLaws.{AreGood, NotSeen, unsee_one}
use Rattle.iloc_spec_grammar.proofs.BlockLaws.{RuleAt, blocks_good, one_extensions, tree_by_blocks, blocks_tree, read_by_blocks}
use Rattle.iloc_spec_grammar.proofs.Singletons.{tied, find_holds}
use Rattle.iloc_spec_grammar.proofs.ValuesLaws.{all_weaker}

-- the pieces after a singleton are those of the block that is found

abbrev or_empty : Option (List Text) → List Text
or_empty None = []
or_empty (Some ps) = ps

pub same_test : (q c : ℕ) → (c == q) ≡ eq_by_cmp nat_cmp q c
same_test q c = grind (arith, nat_tests)

pub none_after : (q : ℕ) (bs : List Block) →
    list_any (eq_by_cmp nat_cmp q) (map (λ b. lower_singleton b) bs) ≡ false → after q bs ≡ []
none_after q [] d = refl
none_after q (b ∷ bs) d =
    let parts = or_parts _ _ d in rw (same_test q (lower_singleton b) ∙ parts.0) (none_after q bs parts.1)

after_find : (q : ℕ) (bs : List Block) →
    AllDifferent nat_cmp (map (λ b. lower_singleton b) bs) →
    after q bs ≡ or_empty (find nat_cmp q (by_singleton bs))
after_find q [] d = refl
after_find q (b ∷ bs) d =
    grind (
      arith,
      same_test,
      cond_both,
      none_after,
      tied,
      false_from_ne_true,
      append-nil,
      after_find q bs d.1,
    )

-- parts that are spelled by some piece, and by none

unicode_some : (u : SpelledUnicode) → 0 < length (unicode_pieces u) →
    0 < length u.attributes + length u.keywords
unicode_some u h = from u.attributes u.keywords h
  where
    from : (ws : List Text) (fs : Fields) → 0 < length (ws ++ fields_pieces fs) →
        0 < length ws + length fs
    from (w ∷ ws) fs h = omega arith
    from [] (f ∷ fs) h = omega arith
    from [] [] h = h

some_unicode : (u : SpelledUnicode) → 0 < length u.attributes + length u.keywords →
    0 < length (unicode_pieces u)
some_unicode u h = from u.attributes u.keywords h
  where
    from : (ws : List Text) (fs : Fields) → 0 < length ws + length fs →
        0 < length (ws ++ fields_pieces fs)
    from (w ∷ ws) fs h = omega arith
    from [] (f ∷ fs) h = omega arith
    from [] [] h = h

transform_some : (m : SpelledTransform) → 0 < length (transform_pieces m) → m.id ≡ None → 0 < length m.fields
transform_some m h e = from m.fields (rw e at h)
  where
    from : (fs : Fields) → 0 < length (fields_pieces fs) → 0 < length fs
    from [] h = h
    from (f ∷ fs) h = omega arith

some_transform : (m : SpelledTransform) → (m.id ≡ None → 0 < length m.fields) →
    0 < length (transform_pieces m)
some_transform m h = from m.id m.fields h
  where
    from : (o : Option SpelledIdentifier) (fs : Fields) → (o ≡ None → 0 < length fs) →
        0 < length (transform_pieces {s = Spelled} (record { id = o; fields = fs }))
    from (Some i) fs h = omega arith
    from None (f ∷ fs) h = omega arith
    from None [] h = h refl

unicode_none : (u : SpelledUnicode) → unicode_pieces u ≡ [] → normal_unicode u ≡ no_unicode
unicode_none u e = from u.attributes u.keywords e
  where
    from : (ws : List Text) (fs : Fields) → ws ++ fields_pieces fs ≡ [] →
        normal_unicode (record { attributes = ws; keywords = fs }) ≡ no_unicode
    from [] [] e = refl
    from (w ∷ ws) fs e = cc
    from [] (f ∷ fs) e = cc

transform_none : (m : SpelledTransform) → transform_pieces m ≡ [] → normal_transform m ≡ no_transform
transform_none m e = from m.id m.fields e
  where
    from : (o : Option SpelledIdentifier) (fs : Fields) →
        transform_pieces {s = Spelled} (record { id = o; fields = fs }) ≡ [] →
        normal_transform (record { id = o; fields = fs }) ≡ no_transform
    from None [] e = refl
    from (Some i) fs e = cc
    from None (f ∷ fs) e = cc

-- what blocks spell is what they give one by one

pub spelled_give : (T : LanguageLengths) (bs : List Block) (e : SpelledExtensions) →
    SpellsExtensions T bs e → BlocksGive (grammar_rules T) bs (normal_extensions e)
spelled_give T bs e s = record {
  letters = grind (arith, all_weaker);
  different = s.different;
  unicode = at_u (find nat_cmp code_u (by_singleton bs)) (some_at code_u)
      (sym (after_find code_u bs s.different) ∙ s.unicode.1);
  transform = at_t (find nat_cmp code_t (by_singleton bs)) (some_at code_t)
      (sym (after_find code_t bs s.different) ∙ s.transform.1);
  private = at_x (find nat_cmp code_x (by_singleton bs)) (some_at code_x)
      (sym (after_find code_x bs s.different) ∙ s.private.1);
  each_other = grind (arith, all_weaker);
  others = cc;
}
  where
    some_at : (q : ℕ) → IfSome (find nat_cmp q (by_singleton bs)) (λ ps. 0 < length ps)
    some_at q = find_holds (λ q ps. 0 < length ps) q bs
        (grind (arith, all_weaker))

    at_u : (o : Option (List Text)) → IfSome o (λ ps. 0 < length ps) →
        or_empty o ≡ unicode_pieces e.unicode → PartIs UnicodeMeans no_unicode o (normal_unicode e.unicode)
    at_u None h k = unicode_none e.unicode (sym k)
    at_u (Some ps) h k = grind (arith, unicode_some)

    at_t : (o : Option (List Text)) → IfSome o (λ ps. 0 < length ps) →
        or_empty o ≡ transform_pieces e.transform →
        PartIs (TransformMeans T) no_transform o (normal_transform e.transform)
    at_t None h k = transform_none e.transform (sym k)
    at_t (Some ps) h k = grind (arith, transform_some)

    at_x : (o : Option (List Text)) → IfSome o (λ ps. 0 < length ps) → or_empty o ≡ e.private →
        PartIs PrivateMeans [] o (map lower e.private)
    at_x None h k = ap (map lower) (sym k)
    at_x (Some ps) h k = grind (arith)

pub good_blocks : {T : ℕ → Bool} {bs : List Block} {e : SpelledExtensions} →
    SpellsExtensions T bs e → AreGood T [] bs
good_blocks {T = T} {bs = bs} {e = e} s = search (blocks_good, spelled_give)

-- good blocks spell what is read of them

-- the extensions that blocks are read as
abbrev pub read_of : List Block → SpelledExtensions
read_of bs = record {
  unicode = unicode_of (after code_u bs);
  transform = transform_of (after code_t bs);
  private = after code_x bs;
  others = other_blocks bs;
}

record GoodParts (T : LanguageLengths) (seen : List ℕ) (bs : List Block) : Type 0 where
  rules : AllByRecursion (λ b. HasSingleton b × IsBlock T b) bs
  different : AllDifferent nat_cmp (map (λ b. lower_singleton b) bs)
  unseen : NotSeen seen bs

good_parts : (T : LanguageLengths) (seen : List ℕ) (bs : List Block) → AreGood T seen bs →
    GoodParts T seen bs
good_parts T seen [] g = search
good_parts T seen (b ∷ bs) g =
    grind (arith, unsee_one, both_ways, good_parts T (lower_singleton b ∷ seen) bs g.1)

-- a block has a piece
rule_some : (T : LanguageLengths) (q : ℕ) (ps : List Text) → RuleAt T q ps → 0 < length ps
rule_some T q ps (inl p) = p.1.nonempty
rule_some T q ps (inr (e, h, k)) = rw k (from e h)
  where
    from : (e : Extension) → IsExtension T q e → 0 < length (extension_pieces e)
    from (unicode u) h = some_unicode u h.1.nonempty
    from (transform m) h = some_transform m h.1.nonempty
    from (other []) h = h.1.nonempty
    from (other (p ∷ ps)) h = omega arith

-- the rules of the parts, of the one block that each has or of none

unicode_rule : (T : LanguageLengths) (o : Option (List Text)) → IfSome o (RuleAt T code_u) →
    IsUnicode (unicode_of (or_empty o))
unfolding unicode_of
unicode_rule T None h = search
unicode_rule T (Some ps) (inl p) = absurd (let k = p.0 in omega arith)
unicode_rule T (Some ps) (inr (unicode u, h, e)) =
    subst IsUnicode (sym (ap unicode_of e ∙ unicode_of-pieces u h.1)) (search)
unicode_rule T (Some ps) (inr (transform m, h, e)) = absurd (let k = h.0 in omega arith)
unicode_rule T (Some ps) (inr (other qs, h, e)) = cc

transform_rule : (T : LanguageLengths) (o : Option (List Text)) → IfSome o (RuleAt T code_t) →
    IsTransform T (transform_of (or_empty o))
unfolding transform_of
transform_rule T None h = search
transform_rule T (Some ps) (inl p) = absurd (let k = p.0 in omega arith)
transform_rule T (Some ps) (inr (transform m, h, e)) = grind (arith, transform_of-pieces)
transform_rule T (Some ps) (inr (unicode u, h, e)) = absurd (let k = h.0 in omega arith)
transform_rule T (Some ps) (inr (other qs, h, e)) = cc

private_rule : (T : LanguageLengths) (o : Option (List Text)) → IfSome o (RuleAt T code_x) →
    AllByRecursion (IsWord PrivateSubtag) (or_empty o)
private_rule T None h = tt
private_rule T (Some ps) (inl p) = p.1.words
private_rule T (Some ps) (inr (unicode u, h, e)) = absurd (let k = h.0 in omega arith)
private_rule T (Some ps) (inr (transform m, h, e)) = absurd (let k = h.0 in omega arith)
private_rule T (Some ps) (inr (other qs, h, e)) = cc

other_rule : (T : LanguageLengths) (q : ℕ) (ps : List Text) → RuleAt T q ps → is_other_singleton q ≡ true →
    IsOther ps
other_rule T q ps (inl p) k = cc
other_rule T q ps (inr (other qs, h, e)) k = rw e h.1
other_rule T q ps (inr (unicode u, h, e)) k = cc
other_rule T q ps (inr (transform m, h, e)) k = cc

others_rule : (T : LanguageLengths) (bs : List Block) →
    AllByRecursion (λ b. RuleAt T (lower_singleton b) b.1) bs →
    AllByRecursion (λ o. IsOther o.1) (other_blocks bs)
others_rule T [] h = tt
others_rule T (b ∷ bs) h = grind (arith, cond_both, other_rule, others_rule T bs h.1)

pub good_spell : (T : LanguageLengths) (bs : List Block) → AreGood T [] bs →
    SpellsExtensions T bs (read_of bs)
good_spell T bs g =
    let parts = good_parts T [] bs g in
    let rules = all_weaker (λ b. HasSingleton b × IsBlock T b) (λ b. RuleAt T (lower_singleton b) b.1)
    (λ b k. k.1) bs parts.rules in
    record {
      each_block = all_weaker (λ b. HasSingleton b × IsBlock T b)
          (λ b. (is_ascii_alphanumeric b.0 ≡ true) × (0 < length b.1))
          (λ b k. (k.0, rule_some T (lower_singleton b) b.1 k.1)) bs parts.rules;
      different = parts.different;
      unicode = (
        rw (after_find code_u bs parts.different) (unicode_rule T _ (find_holds (RuleAt T) code_u bs rules)),
        sym (pieces-unicode_of (after code_u bs)),
      );
      transform = (
        rw (after_find code_t bs parts.different) (transform_rule T _
            (find_holds (RuleAt T) code_t bs rules)),
        sym (pieces-transform_of (after code_t bs)),
      );
      private = (
        rw (after_find code_x bs parts.different) (private_rule T _ (find_holds (RuleAt T) code_x bs rules)),
        refl,
      );
      others = (others_rule T bs rules, refl);
    }

pub blocks_spelled : {T : ℕ → Bool} {bs : List Block} → AreGood T [] bs → AreBlocks T bs
blocks_spelled {T = T} {bs = bs} g = (read_of bs, good_spell T bs g)

-- what blocks mean is what they give one by one

pub mean_give : {T : ℕ → Bool} {bs : List Block} {e : Extensions} → BlocksMean T bs e →
    BlocksGive (grammar_rules T) bs e
mean_give {T = T} {bs = bs} (w, s, e) =
    rw e (spelled_give T bs w s)

pub give_mean : {T : ℕ → Bool} {bs : List Block} {e : Extensions} →
    BlocksGive (grammar_rules T) bs e → BlocksMean T bs e
give_mean {T = T} {bs = bs} {e = e} g = search (good_spell, blocks_good, one_extensions, spelled_give)

-- whole texts

pub means_by_blocks : {T : ℕ → Bool} (t : Text) (M : Locale) → Means T t M → MeansByBlocks T t M
means_by_blocks t M m = search mean_give

pub blocks_mean : {T : ℕ → Bool} (t : Text) (M : Locale) → MeansByBlocks T t M → Means T t M
blocks_mean t M m = search give_mean

pub tree_means : {T : ℕ → Bool} (t : Text) (M : Locale) → Means T t M → TreeMeans T t M
tree_means {T = T} t M m = blocks_tree T t M (means_by_blocks t M m)

pub means_by_tree : {T : ℕ → Bool} → AreLengths T → (t : Text) (M : Locale) → TreeMeans T t M → Means T t M
means_by_tree {T = T} table t M m = blocks_mean t M (tree_by_blocks T table t M m)

-- good blocks after an identifier mean what is read of them
pub good_text : (T : LanguageLengths) (t : Text) → SpellsIdentifier T (head (pieces t)) →
    AreGood T [] (tail_blocks (pieces t)) → Means T t (meaning (written_of (pieces t)))
good_text T t s g = search (blocks_mean, read_by_blocks)

-- a text means one value at most
pub one_meaning : {T : ℕ → Bool} → AreLengths T → (t : Text) (L M : Locale) → Means T t L → Means T t M →
    L ≡ M
one_meaning table t L M a b = trees.one_meaning table t L M (tree_means t L a) (tree_means t M b)

-- The steps of texts and of their blocks are those of the trees that they spell.
use Rattle.std.proofs.Common.{◌≡◌, ◌≢◌, ◌⊎◌, inl, inr, ℕ, Bool, false, not, ◌==◌, List, [], ◌∷◌, ◌++◌, map, filter, refl, sym, ap, ◌∙◌, subst, arith, Option, Some, None, option_to_list}
use Rattle.std.specs.List.{AllByRecursion, AllZip}
use Rattle.std.proofs.lemmas.Bool.{cases_Bool, ne_eqb}
use Rattle.iloc_spec_grammar.specs.Syntax.{LanguageLengths, Block, code_x, code_u, code_t, Text, pieces, join, head, tail_blocks, AreLengths, IsIdentifier, identifier_pieces, SpelledIdentifier, SpelledUnicode, unicode_pieces, transform_pieces, IsUnicode, lower_singleton}
use Rattle.iloc_spec_grammar.specs.Tree.{Extension, unicode, other, Written, extension_block, blocks_of, spelling, IsUnicodeBlock, IsTransformBlock, IsExtension, IsWritten, IsBlock}
use Rattle.iloc_spec_grammar.specs.Meaning.{Locale, Means, AreBlocks, normal_identifier, normal_extensions}
use Rattle.iloc_spec_grammar.specs.Values.{Reordered, Rule, AttributesStep, FieldsStep, IdentifierStep, BlockStep, BlocksStep, TextStep, IdentifierTextStep}
use Rattle.iloc_spec_grammar.specs.TreeSteps.{TreeRule, TreeIdentifierStep, ExtensionStep, Step, TreeTextStep, TreeIdentifierTextStep, written}
use Rattle.iloc_spec_grammar.specs.Reading.{identifier_of, written_of, unicode_of, extension_of, extensions_in, private_in}
use Rattle.iloc_spec_grammar.proofs.Orders.{total_reordered, all_reordered, map_reordered, reordered_after, filter_reordered}
use Rattle.iloc_spec_grammar.proofs.RuleTests.{extension_read}
use Rattle.iloc_spec_grammar.proofs.FaultLaws.{EndsAtX, tail_ends, AreGood, good_written, written_good, pieces-written_of}
use Rattle.iloc_spec_grammar.proofs.Readings.{unicode_read, transform_read, head-spelling, blocks-spelling}
use Rattle.iloc_spec_grammar.proofs.Singletons.{no_t, no_u, no_x}
use Rattle.iloc_spec_grammar.proofs.StepLaws.{identifier_step, extension_step, written_step}
use Rattle.iloc_spec_grammar.proofs.StepSizes.{step_pieces}
use Rattle.iloc_spec_grammar.proofs.IdentifierTexts.{pieces-identifier_text}
use Rattle.iloc_spec_grammar.proofs.SamePartSteps.{tree_rule, rule_of, unicode_step, transform_step, same_identifier, tree_identifier_rule, same_rule, identifier_rule_by_tree, block_by_tree}
use Rattle.iloc_spec_grammar.proofs.SameMeaning.{good_blocks, blocks_spelled}
use Rattle.iloc_spec_grammar.proofs.PiecesLaws.{join-pieces}
use Rattle.iloc_spec_grammar.proofs.IdentifierLaws.{identifier_of-pieces, one_identifier}

-- blocks in another order

one_reordered : {X : Type 0} (a b : Option X) → Reordered (option_to_list a) (option_to_list b) → a ≡ b
one_reordered None None r = refl
one_reordered (Some x) (Some y) r = ap Some (all_reordered (λ z. x ≡ z) r (refl, tt)).0
one_reordered _ _ r = absurd (let n = total_reordered (λ z. 1) r in omega arith)

abbrev read_block : Block → ℕ × Extension
read_block b = (b.0, extension_of (lower_singleton b) b.1)

extensions_before : (bs : List Block) → EndsAtX bs →
    map read_block (filter (λ b. not (lower_singleton b == code_x)) bs) ≡ extensions_in bs
extensions_before [] e = refl
extensions_before (b ∷ bs) e = grind (arith, cases_Bool, extensions_before bs e.1)

private_after : (bs : List Block) → EndsAtX bs →
    filter (λ b. lower_singleton b == code_x) bs ≡ option_to_list (private_in bs)
private_after [] e = refl
private_after (b ∷ bs) e = grind (arith, cases_Bool, private_after bs e.1)

-- those of `x` stay last
pub extensions_reordered : (bs cs : List Block) → EndsAtX bs → EndsAtX cs → Reordered bs cs →
    Reordered (extensions_in bs) (extensions_in cs)
extensions_reordered bs cs e f r = grind (arith, extensions_before, map_reordered, filter_reordered)

-- a step inside a block is one of what is read of it

rule_read : (T : LanguageLengths) (b : Block) → lower_singleton b ≢ code_x → IsBlock T b →
    IsExtension T (lower_singleton b) (extension_of (lower_singleton b) b.1)
rule_read T b n (inl p) = absurd (n p.0)
rule_read T b n (inr h) = extension_read T (lower_singleton b) b.1 h

unicode_read_step : (T : LanguageLengths) (r : Rule) (u v : SpelledUnicode) → IsUnicode u →
    AttributesStep r u.attributes v.attributes → FieldsStep r 0 u.keywords v.keywords →
    IsExtension T code_u (unicode (unicode_of (unicode_pieces u))) →
    ExtensionStep (tree_rule r) (unicode (unicode_of (unicode_pieces u)))
    (unicode (unicode_of (unicode_pieces v)))
unicode_read_step T r u v h a k g =
    let s = unicode_step r u v a k in
    let p = unicode_read u h in
    let after = (extension_step T code_u s (refl, subst IsUnicodeBlock p g.1)).0.1 in
    search (unicode_read, tree_rule)

-- of blocks that differ
record ReadStep (T : LanguageLengths) (r : Rule) (b c : Block) : Type 0 where
  no_x : (lower_singleton b == code_x) ≡ false
  singletons : b.0 ≡ c.0
  step : IsBlock T b →
      ExtensionStep (tree_rule r) (extension_of (lower_singleton b) b.1)
      (extension_of (lower_singleton b) c.1)

read_step : (T : LanguageLengths) (r : Rule) {b c : Block} → BlockStep T r b c →
    (b ≡ c) ⊎ ReadStep T r b c
read_step T r BlockStep.same = inl refl
read_step T r (BlockStep.in_unicode {c = c} u v e h a k) = inr (record {
  no_x = rw e refl;
  singletons = refl;
  step =
      λ g. let x = rw e at (rule_read T (c, unicode_pieces u) (λ n. let m = e in absurd (omega arith)) g) in
      rw e (unicode_read_step T r u v h a k x);
})
read_step T r (BlockStep.in_transform {c = c} m n e h i k) = inr (record {
  no_x = rw e refl;
  singletons = refl;
  step =
      λ g. let x = rw e at (rule_read T (c, transform_pieces m) (λ n. let m = e in absurd (omega arith)) g) in
      rw e (let s = transform_step r m n i k in let p = transform_read m h in let after =
      (extension_step T code_t s (refl, subst (IsTransformBlock T) p x.1)).0.1 in grind (
        arith,
        transform_read,
        tree_rule,
      ));
})
read_step T r (BlockStep.in_other {c = c} {ps = ps} {qs = qs} o p w) = inr (record {
  no_x = ne_eqb _ _ (λ x. no_x _ x o);
  singletons = refl;
  step = λ g. rw (ne_eqb _ _ (λ x. no_t _ x o), ne_eqb _ _ (λ x. no_u _ x o))
      (subst (λ r. ExtensionStep (tree_rule r) (other ps) (other qs)) (sym p)
      (ExtensionStep.dropped_pieces w));
})

-- blocks place by place

ReadSteps : Rule → List Block → List Block → Type 0
ReadSteps r bs cs =
    AllZip (λ e f. (e.0 ≡ f.0) × ExtensionStep (tree_rule r) e.1 f.1) (extensions_in bs) (extensions_in cs)
    × (private_in bs ≡ private_in cs)

read_steps : (T : LanguageLengths) (r : Rule) (bs cs : List Block) → AllZip (BlockStep T r) bs cs →
    AllByRecursion (IsBlock T) bs → ReadSteps r bs cs
unfolding ReadSteps
read_steps T r [] [] z h = (tt, refl)
read_steps T r (b ∷ bs) (c ∷ cs) z h = at_block (read_step T r z.0) (read_steps T r bs cs z.1 h.1)
  where
    at_block : (b ≡ c) ⊎ ReadStep T r b c → ReadSteps r bs cs → ReadSteps r (b ∷ bs) (c ∷ cs)
    at_block (inl e) rest =
        (rw (← e) (elim (cases_Bool (lower_singleton b == code_x)) [
          | inl t ↦ rw t (tt, refl)
          | inr t ↦ rw t (((refl, ExtensionStep.same), rest.0), rest.1)
        ]))
    at_block (inr s) rest = grind (arith, ReadSteps)
read_steps T r _ _ z h = absurd z

good_rules : (T : LanguageLengths) (seen : List ℕ) (bs : List Block) → AreGood T seen bs →
    AllByRecursion (IsBlock T) bs
good_rules T seen [] g = tt
good_rules T seen (b ∷ bs) g = (g.0.2, good_rules T (lower_singleton b ∷ seen) bs g.1)

-- texts

written_of_step : (T : LanguageLengths) (r : Rule) (ps qs : List Text) (i j : SpelledIdentifier) →
    identifier_of (head ps) ≡ i → identifier_of (head qs) ≡ j → IdentifierStep r i j →
    BlocksStep T r (tail_blocks ps) (tail_blocks qs) → AllByRecursion (IsBlock T) (tail_blocks ps) →
    Step (written_of ps) (written_of qs)
unfolding ReadSteps written_of
written_of_step T Rule.BlockOrder ps qs i j p q s z h =
    let id = p ∙ same_identifier s ∙ sym q in
    let x = (one_reordered (private_in (tail_blocks ps)) (private_in (tail_blocks qs))
    (subst (λ l. Reordered l (option_to_list (private_in (tail_blocks qs))))
    (private_after (tail_blocks ps) (tail_ends ps)) (subst
    (Reordered (filter (λ b. lower_singleton b == code_x) (tail_blocks ps)))
    (private_after (tail_blocks qs) (tail_ends qs)) (filter_reordered _ z)))) in
    subst (λ w. Step (written_of ps) w) (λ k. written (id k) (extensions_in (tail_blocks qs)) (x k))
    (Step.block_order
    (search (extensions_reordered, tail_ends)))
written_of_step T r ps qs i j p q s z h =
    let ids : TreeIdentifierStep (tree_rule r) (identifier_of (head ps)) (identifier_of (head qs)) =
    subst (λ k. TreeIdentifierStep (tree_rule r) k (identifier_of (head qs))) (sym p)
    (subst (TreeIdentifierStep (tree_rule r) i) (sym q) (tree_identifier_rule r i j s)) in
    let k = read_steps T r (tail_blocks ps) (tail_blocks qs) z h in
    subst (λ x. Step (written_of ps) (written (identifier_of (head qs)) (extensions_in (tail_blocks qs)) x))
    k.1 (Step.inside (tree_rule r) ids k.0)

-- a step between texts is one of what they spell
pub tree_step : {T : ℕ → Bool} (t u : Text) → TextStep T t u → TreeTextStep T t u
tree_step t u (TextStep.letter_case e) = TreeTextStep.letter_case e
tree_step {T = T} t u (TextStep.rewritten r w) =
    let id = w.accepted.1.id in
    let good : AreGood T [] (tail_blocks (pieces t)) = good_blocks w.accepted.1.extensions.1 in
    let first : IsIdentifier T w.old = grind (arith, one_identifier) in
    let second = (identifier_step (tree_identifier_rule r w.old w.new w.id) first).0 in
    rw (ap join (sym (pieces-written_of u)) ∙ join-pieces u) at (TreeTextStep.rewritten
    (good_written T t (id.written, id.grammatical, id.spelled) good)
    (pieces-written_of t)
    (written_of_step T r (pieces t) (pieces u) w.old w.new
    (grind (arith, identifier_of-pieces))
    (grind (arith, identifier_of-pieces)) w.id w.blocks
    (good_rules T [] _ good)))

-- a step of what a text spells is one of its blocks

blocks_by_tree : (T : LanguageLengths) (r : TreeRule) (es fs : List (ℕ × Extension)) (x : List Block) →
    AllZip (λ e f. (e.0 ≡ f.0) × ExtensionStep r e.1 f.1) es fs →
    AllByRecursion (λ e. IsExtension T (lower_singleton e) e.1) es →
    AllZip (BlockStep T (rule_of r)) (map extension_block es ++ x) (map extension_block fs ++ x)
blocks_by_tree T r [] [] x z h = same_blocks x
  where
    same_blocks : (bs : List Block) → AllZip (BlockStep T (rule_of r)) bs bs
    same_blocks [] = tt
    same_blocks (b ∷ bs) = (BlockStep.same, same_blocks bs)
blocks_by_tree T r (e ∷ es) (f ∷ fs) x z h =
    grind (arith, rule_of, block_by_tree, blocks_by_tree T r es fs x z.1 h.1)
blocks_by_tree T r _ _ x z h = absurd z

-- none of the tree's rules is that of the order of blocks
inside_blocks : (T : LanguageLengths) (r : TreeRule) (bs cs : List Block) →
    AllZip (BlockStep T (rule_of r)) bs cs → BlocksStep T (rule_of r) bs cs
inside_blocks T TreeRule.VariantOrder bs cs z = z
inside_blocks T r bs cs z = z

-- a step of trees as one of heads and blocks
record StepOfBlocks (T : LanguageLengths) (v w : Written) : Type 0 where
  rule : Rule
  id : IdentifierStep rule v.id w.id
  blocks : BlocksStep T rule (blocks_of v) (blocks_of w)

blocks_step : (T : LanguageLengths) {v w : Written} → IsWritten T v → Step v w → StepOfBlocks T v w
blocks_step T h (Step.block_order {i = i} {x = x} r) = record {
  rule = Rule.BlockOrder;
  id = same_rule Rule.BlockOrder i;
  blocks = reordered_after (option_to_list x) (map_reordered extension_block r);
}
blocks_step T h (Step.inside r {es = es} {fs = fs} {x = x} s z) =
    search (rule_of, identifier_rule_by_tree, inside_blocks, blocks_by_tree)

-- if the blocks of both are those that they are made of
pub spelled_step : {T : ℕ → Bool} (t : Text) {v w : Written} → IsWritten T v → pieces t ≡ spelling v →
    tail_blocks (spelling v) ≡ blocks_of v → tail_blocks (spelling w) ≡ blocks_of w → Step v w →
    TextStep T t (join (spelling w))
spelled_step {T = T} t {v = v} {w = w} h e bs cs s =
    let k = blocks_step T h s in
    let after = (written_step T s h).0 in
    let p : pieces (join (spelling w)) ≡ spelling w = step_pieces t e s in
    let first : tail_blocks (pieces t) ≡ blocks_of v = ap tail_blocks e ∙ bs in
    let second : tail_blocks (pieces (join (spelling w))) ≡ blocks_of w = ap tail_blocks p ∙ cs in
    let front : head (pieces t) ≡ identifier_pieces v.id = ap head e ∙ head-spelling v h in
    let parts = subst (AreBlocks T) (sym first) (blocks_spelled (written_good v h)) in
    let M : Locale = record { id = normal_identifier v.id; extensions = normal_extensions parts.0 } in
    let means : Means T t M = grind (arith) in
    TextStep.rewritten k.rule (grind (arith, head-spelling))

pub step_by_tree : {T : ℕ → Bool} → AreLengths T → (t u : Text) → TreeTextStep T t u → TextStep T t u
step_by_tree table t u (TreeTextStep.letter_case e) = TextStep.letter_case e
step_by_tree {T = T} table t u (TreeTextStep.rewritten {v = v} {w = w} h e s) =
    spelled_step t h e (blocks-spelling table v h) (blocks-spelling table w (written_step T s h).0) s

-- texts of identifiers

pub tree_identifier_step : {T : ℕ → Bool} (t u : Text) → IdentifierTextStep T t u →
    TreeIdentifierTextStep T t u
tree_identifier_step t u (IdentifierTextStep.letter_case e) = TreeIdentifierTextStep.letter_case e
tree_identifier_step {T = T} t u (IdentifierTextStep.variant_order {i = i} {j = j} h e k s) =
    rw (ap join (sym k) ∙ join-pieces u) at (TreeIdentifierTextStep.variant_order h e
    (tree_identifier_rule Rule.VariantOrder i j s))

pub identifier_step_by_tree : {T : ℕ → Bool} (t u : Text) → TreeIdentifierTextStep T t u →
    IdentifierTextStep T t u
identifier_step_by_tree t u (TreeIdentifierTextStep.letter_case e) = IdentifierTextStep.letter_case e
identifier_step_by_tree t u (TreeIdentifierTextStep.variant_order {j = j} h e s) =
    IdentifierTextStep.variant_order h e (pieces-identifier_text j (identifier_step s h).0.words)
    (identifier_rule_by_tree s)

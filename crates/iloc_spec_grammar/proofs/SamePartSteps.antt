-- The steps of identifiers, of fields and of what blocks spell are those of the tree.
use Rattle.std.proofs.Common.{◌≡◌, ℕ, ◌≤◌, Bool, length, refl, ap, subst, arith, Option, Some, None, option_to_list}
use Rattle.std.specs.List.{AllZip}
use Rattle.std.specs.Char.{to_ascii_lowercase}
use Rattle.iloc_spec_grammar.specs.Syntax.{LanguageLengths, Field, SpelledIdentifier, SpelledUnicode, SpelledTransform, Fields, IsUnicode, IsTransform}
use Rattle.iloc_spec_grammar.specs.Tree.{Extension, unicode, transform, extension_pieces, IsUnicodeBlock, IsTransformBlock, IsExtension}
use Rattle.iloc_spec_grammar.specs.Values.{Rule, LessTrue, AttributesStep, FieldsStep, IdentifierStep, BlockStep}
use Rattle.iloc_spec_grammar.specs.TreeSteps.{TreeRule, TreeLessTrue, TreeIdentifierStep, ExtensionStep, unicode_extension, transform_extension}
use Rattle.iloc_spec_grammar.proofs.Orders.{itself}
use Rattle.iloc_spec_grammar.proofs.General.{zip_weaker}

-- the same rules; a step in the order of blocks changes nothing inside them, so any rule is its own there

abbrev pub tree_rule : Rule → TreeRule
tree_rule Rule.BlockOrder = TreeRule.VariantOrder
tree_rule Rule.VariantOrder = TreeRule.VariantOrder
tree_rule Rule.AttributeOrder = TreeRule.AttributeOrder
tree_rule Rule.FieldOrder = TreeRule.FieldOrder
tree_rule Rule.Repeats = TreeRule.Repeats
tree_rule Rule.Trues = TreeRule.Trues
tree_rule Rule.DroppedPieces = TreeRule.DroppedPieces

abbrev pub rule_of : TreeRule → Rule
rule_of TreeRule.VariantOrder = Rule.VariantOrder
rule_of TreeRule.AttributeOrder = Rule.AttributeOrder
rule_of TreeRule.FieldOrder = Rule.FieldOrder
rule_of TreeRule.Repeats = Rule.Repeats
rule_of TreeRule.Trues = Rule.Trues
rule_of TreeRule.DroppedPieces = Rule.DroppedPieces

-- in what follows `u`

same_unicode : {r : TreeRule} (u v : SpelledUnicode) → u.attributes ≡ v.attributes → u.keywords ≡ v.keywords →
    ExtensionStep r (unicode u) (unicode v)
same_unicode {r = r} u v a k =
    subst (ExtensionStep r (unicode u)) (λ i. unicode_extension (a i) (k i)) ExtensionStep.same

new_attributes : {r : TreeRule} (u v : SpelledUnicode) → u.attributes ≡ v.attributes →
    ExtensionStep r (unicode u) (unicode_extension u.attributes v.keywords) →
    ExtensionStep r (unicode u) (unicode v)
new_attributes {r = r} u v a s = grind arith

less_true : (n : ℕ) (fs gs : Fields) → AllZip (LessTrue n) fs gs →
    AllZip (λ f g. TreeLessTrue f g × (n ≤ length g.1)) fs gs
less_true n fs gs z = grind (arith, zip_weaker)

pub unicode_step : (r : Rule) (u v : SpelledUnicode) → AttributesStep r u.attributes v.attributes →
    FieldsStep r 0 u.keywords v.keywords → ExtensionStep (tree_rule r) (unicode u) (unicode v)
unicode_step Rule.AttributeOrder u v a k =
    rw (← k) (ExtensionStep.attribute_order a)
unicode_step Rule.FieldOrder u v a k = new_attributes u v a (ExtensionStep.keyword_order k.0 k.1)
unicode_step Rule.Repeats u v a k =
    ExtensionStep.unicode_repeats a k
unicode_step Rule.Trues u v a k = new_attributes u v a (ExtensionStep.unicode_trues
    (grind (arith, zip_weaker, less_true)))
unicode_step r u v a k = same_unicode u v a k

-- in an identifier

-- a step of another rule than that of variants
abbrev pub NoStep : SpelledIdentifier → SpelledIdentifier → Type 0
NoStep i j = (j ≡ record i { variants = j.variants }) × (i.variants ≡ j.variants)

pub same_identifier : {i j : SpelledIdentifier} → NoStep i j → i ≡ j
same_identifier {i = i} s = grind arith

pub tree_identifier_rule : (r : Rule) (i j : SpelledIdentifier) → IdentifierStep r i j →
    TreeIdentifierStep (tree_rule r) i j
tree_identifier_rule Rule.VariantOrder i j s =
    rw s.0 (TreeIdentifierStep.variants s.1)
tree_identifier_rule r i j s =
    rw (← (same_identifier s)) TreeIdentifierStep.same

-- in what follows `t`

same_transform : {r : TreeRule} (m n : SpelledTransform) → m.id ≡ n.id → m.fields ≡ n.fields →
    ExtensionStep r (transform m) (transform n)
same_transform {r = r} m n i k =
    subst (ExtensionStep r (transform m)) (λ l. transform_extension (i l) (k l)) ExtensionStep.same

new_id : {r : TreeRule} (m n : SpelledTransform) → m.id ≡ n.id →
    ExtensionStep r (transform m) (transform_extension m.id n.fields) →
    ExtensionStep r (transform m) (transform n)
new_id {r = r} m n i s = grind arith

same_option : (a b : Option SpelledIdentifier) → AllZip NoStep (option_to_list a) (option_to_list b) → a ≡ b
same_option None None z = refl
same_option (Some i) (Some j) z = ap Some (same_identifier z.0)
same_option _ _ z = absurd z

option_step : (a b : Option SpelledIdentifier) (fs : Fields) →
    AllZip (IdentifierStep Rule.VariantOrder) (option_to_list a) (option_to_list b) →
    ExtensionStep TreeRule.VariantOrder (transform_extension a fs) (transform_extension b fs)
option_step None None fs z = ExtensionStep.same
option_step (Some i) (Some j) fs z = ExtensionStep.identifier (tree_identifier_rule Rule.VariantOrder i j z.0)
option_step _ _ fs z = absurd z

pub transform_step : (r : Rule) (m n : SpelledTransform) →
    AllZip (IdentifierStep r) (option_to_list m.id) (option_to_list n.id) → FieldsStep r 1 m.fields n.fields →
    ExtensionStep (tree_rule r) (transform m) (transform n)
transform_step Rule.VariantOrder m n i k =
    rw (← k) (option_step m.id n.id m.fields i)
transform_step Rule.FieldOrder m n i k =
    new_id m n (same_option m.id n.id i) (ExtensionStep.field_order k.0 k.1)
transform_step Rule.Repeats m n i k =
    new_id m n (same_option m.id n.id i) (ExtensionStep.transform_repeats k)
transform_step Rule.Trues m n i k =
    new_id m n (same_option m.id n.id i) (ExtensionStep.transform_trues (less_true 1 m.fields n.fields k))
transform_step r m n i k = same_transform m n (same_option m.id n.id i) k

-- from a step of the extension to a step of its block

pub same_rule : (r : Rule) (i : SpelledIdentifier) → IdentifierStep r i i
same_rule Rule.VariantOrder i = (refl, itself i.variants)
same_rule r i = (refl, refl)

pub identifier_rule_by_tree : {r : TreeRule} {i j : SpelledIdentifier} → TreeIdentifierStep r i j →
    IdentifierStep (rule_of r) i j
identifier_rule_by_tree (TreeIdentifierStep.same {r = r} {i = i}) = same_rule (rule_of r) i
identifier_rule_by_tree (TreeIdentifierStep.variants p) = (refl, p)

same_id : (r : Rule) (o : Option SpelledIdentifier) →
    AllZip (IdentifierStep r) (option_to_list o) (option_to_list o)
same_id r None = tt
same_id r (Some i) = (same_rule r i, tt)

plain_unicode : {u : SpelledUnicode} → IsUnicodeBlock u → IsUnicode u
plain_unicode h = search

plain_transform : {T : ℕ → Bool} {m : SpelledTransform} → IsTransformBlock T m → IsTransform T m
plain_transform h = search

less_by_tree : (n : ℕ) (f g : Field) → TreeLessTrue f g → n ≤ length g.1 → LessTrue n f g
less_by_tree n f g l h = (l.0, l.1, h)

pub block_by_tree : (T : LanguageLengths) {r : TreeRule} {e f : Extension} (c : ℕ) →
    IsExtension T (to_ascii_lowercase c) e → ExtensionStep r e f →
    BlockStep T (rule_of r) (c, extension_pieces e) (c, extension_pieces f)
block_by_tree T c h (ExtensionStep.identifier {i = i} {j = j} {fs = fs} (TreeIdentifierStep.variants p)) =
    BlockStep.in_transform (record { id = Some i; fields = fs }) (record { id = Some j; fields = fs }) h.0
    (plain_transform h.1) ((refl, p), tt) refl
block_by_tree T c h (ExtensionStep.attribute_order p) =
    BlockStep.in_unicode _ _ h.0 (plain_unicode h.1) p refl
block_by_tree T c h (ExtensionStep.keyword_order d p) =
    BlockStep.in_unicode _ _ h.0 (plain_unicode h.1) refl (d, p)
block_by_tree T c h (ExtensionStep.field_order {i = i} d p) =
    BlockStep.in_transform _ _ h.0 (plain_transform h.1) (same_id Rule.FieldOrder i) (d, p)
block_by_tree T c h (ExtensionStep.unicode_repeats v w) = BlockStep.in_unicode _ _ h.0 (plain_unicode h.1)
    v w
block_by_tree T c h (ExtensionStep.transform_repeats {i = i} w) = BlockStep.in_transform _ _ h.0
    (plain_transform h.1) (same_id Rule.Repeats i) w
block_by_tree T c h (ExtensionStep.unicode_trues {fs = fs} {gs = gs} z) =
    BlockStep.in_unicode _ _ h.0 (plain_unicode h.1) refl (grind (arith, zip_weaker, less_by_tree))
block_by_tree T c h (ExtensionStep.transform_trues {i = i} {fs = fs} {gs = gs} z) =
    BlockStep.in_transform _ _ h.0 (plain_transform h.1) (same_id Rule.Trues i)
    (grind (arith, zip_weaker, less_by_tree))
block_by_tree T c h (ExtensionStep.dropped_pieces w) =
    BlockStep.in_other h.0 refl w
block_by_tree T c h _ = BlockStep.same

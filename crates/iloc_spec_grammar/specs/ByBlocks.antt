-- Meaning block by block: the same relation as `Means`, as a reader of the text would check
-- it, by a rule for each part. The law `by_blocks` says that the two agree if the rules are
-- those of the grammar. Restates UTS #35, section 3, unicode_locale_id.
use Rattle.std.specs.Prelude.{◌≡◌, true, List, [], map, Option, MatchOption}
use Rattle.std.specs.Char.{is_ascii_alphanumeric}
use Rattle.std.specs.List.{AllByRecursion}
use Rattle.std.specs.Ordering.{nat_cmp}
use Rattle.std.specs.FinMap.{find}
use Rattle.iloc_spec_grammar.specs.Syntax.{Text, LanguageLengths, Block, code_t, code_u, code_x, pieces}
use Rattle.iloc_spec_grammar.specs.Syntax.{lower, SpelledUnicode, SpelledTransform, Unicode, Transform}
use Rattle.iloc_spec_grammar.specs.Syntax.{unicode_pieces, transform_pieces, IsOther, kept}
use Rattle.iloc_spec_grammar.specs.Syntax.{AllDifferent, lower_singleton, head}
use Rattle.iloc_spec_grammar.specs.Syntax.{tail_blocks, IsPrivate}
use Rattle.iloc_spec_grammar.specs.Tree.{IsUnicodeBlock, IsTransformBlock, by_singleton}
use Rattle.iloc_spec_grammar.specs.Meaning.{Locale, Extensions, IdentifierMeans, map_of, normal_unicode}
use Rattle.iloc_spec_grammar.specs.Meaning.{normal_transform, no_unicode, no_transform, other_blocks}

-- The rules of the grammar: what the pieces after a singleton mean.

-- after `u`
pub record UnicodeMeans (ps : List Text) (v : Unicode) : Type 0 where
  pub written : SpelledUnicode
  pub grammatical : IsUnicodeBlock written
  pub spelled : ps ≡ unicode_pieces written
  pub means : v ≡ normal_unicode written

-- after `t`
pub record TransformMeans (T : LanguageLengths) (ps : List Text) (n : Transform) : Type 0 where
  pub written : SpelledTransform
  pub grammatical : IsTransformBlock T written
  pub spelled : ps ≡ transform_pieces written
  pub means : n ≡ normal_transform written

-- after `x`
abbrev pub PrivateMeans : List Text → List Text → Type 0
PrivateMeans ps ws = IsPrivate ps × (ws ≡ map lower ps)

-- after another singleton
abbrev pub OtherMeans : List Text → List Text → Type 0
OtherMeans ps ws = IsOther ps × (ws ≡ kept ps)

-- a rule for each part: which value its pieces have
pub record Rules : Type 1 where
  pub unicode : List Text → Unicode → Type 0
  pub transform : List Text → Transform → Type 0
  pub private : List Text → List Text → Type 0
  pub other : List Text → List Text → Type 0

-- the rules of the grammar, part by part (UTS #35 3.2)
abbrev pub grammar_rules : LanguageLengths → Rules
grammar_rules T = record {
  unicode = UnicodeMeans;
  transform = TransformMeans T;
  private = PrivateMeans;
  other = OtherMeans;
}

-- Blocks and what they give by such rules.

-- the block gives the part by its rule; an absent block gives the empty part
abbrev pub PartIs : {X : Type 0} → (List Text → X → Type 0) → X → Option (List Text) → X → Type 0
PartIs Rule empty block v = MatchOption block (v ≡ empty) (λ ps. Rule ps v)

-- Singletons are letters or digits and differ, the blocks of `u`, `t` and `x`
-- give their parts, and each other one the words that it keeps.
pub record BlocksGive (R : Rules) (bs : List Block) (e : Extensions) : Type 0 where
  pub letters : AllByRecursion (λ (c, _). is_ascii_alphanumeric c ≡ true) bs
  pub different : AllDifferent nat_cmp (map (λ b. lower_singleton b) bs)
  pub unicode : PartIs R.unicode no_unicode (find nat_cmp code_u (by_singleton bs)) e.unicode
  pub transform : PartIs R.transform no_transform
      (find nat_cmp code_t (by_singleton bs)) e.transform
  pub private : PartIs R.private [] (find nat_cmp code_x (by_singleton bs)) e.private
  pub each_other : AllByRecursion (λ (_, ps). R.other ps (kept ps)) (other_blocks bs)
  pub others : e.others
      ≡ map_of nat_cmp (map (λ (c, ps). (c, kept ps)) (other_blocks bs))

-- The head is an identifier, and the blocks after it give the extensions.
pub record MeansBy (R : Rules) (T : LanguageLengths) (t : Text) (M : Locale) : Type 0 where
  pub id : IdentifierMeans T (head (pieces t)) M.id
  pub extensions : BlocksGive R (tail_blocks (pieces t)) M.extensions

-- the text means M by the grammar's rule of each block (UTS #35 3.2, `extensions`)
abbrev pub MeansByBlocks : LanguageLengths → Text → Locale → Type 0
MeansByBlocks T t M = MeansBy (grammar_rules T) T t M

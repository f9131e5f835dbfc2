-- The word of the variant is a subtag, and reads as the variant.
use Rattle.std.proofs.Common.{◌≡◌, List, [], ◌∷◌, ℕ, Some, ap, ◌∙◌, slice_get}
use Rattle.iloc_spec_grammar.specs.Syntax.{Text, Subtag}
use Rattle.iloc_spec_grammar.specs.Values.{IsNormal}
use Rattle.iloc_spec_parts.specs.Keywords.{EnumKeyword, variants, enum_gives}
use Rattle.iloc_word_list.specs.Values.{without_true}
use Rattle.iloc_keyword_types.specs.WordTables.{word_at}
use Rattle.iloc_keyword_types.proofs.EnumLemmas.{given, read_back, normal_word, variant}
use Rattle.iloc_keyword_types.proofs.enum_keyword.give_keyword.Goals.{After-word_number}
use Rattle.iloc_keyword_types.proofs.enum_keyword.give_keyword.Goals as goal

module _ (g : _) (c : goal.After-word_number g) where
  abbrev word : Text
  word = word_at g.E.WordEnum.words (g.E.WordEnum.place c.args.keyword)

  is_normal : IsNormal Subtag word
  is_normal = normal_word g.E.EnumKeyword.keyword g.E.WordEnum.words g.met.E.EnumKeyword.same_words
      (g.E.WordEnum.place c.args.keyword) _ (g.met.E.WordEnum.placed c.args.keyword)

pub known_subtag-requires : goal.known_subtag-requires
known_subtag-requires g c = (word g c, is_normal g c, c.word_number.ensures)

pub returns : goal.returns
returns g c =
    (value, read_back keyword words same g.met.E.EnumKeyword.plain place _ at c.from_subtag.result value)
  where
    keyword : EnumKeyword
    keyword = g.E.EnumKeyword.keyword

    words : List Text
    words = g.E.WordEnum.words

    same : words ≡ variants keyword
    same = g.met.E.EnumKeyword.same_words

    place : ℕ
    place = g.E.WordEnum.place c.args.keyword

    at : slice_get words place ≡ Some (word_at words place)
    at = g.met.E.WordEnum.placed c.args.keyword

    normal : IsNormal Subtag (word_at words place)
    normal = normal_word keyword words same place _ at

    value : enum_gives keyword (variant place) ≡ Some c.from_subtag.result
    value = given keyword words same g.met.E.EnumKeyword.plain place at c.from_subtag.result
        (c.from_subtag.ensures
        ∙ ap (λ (w : Text). without_true (w ∷ []))
        (c.known_subtag.ensures (word_at words place) normal c.word_number.ensures))

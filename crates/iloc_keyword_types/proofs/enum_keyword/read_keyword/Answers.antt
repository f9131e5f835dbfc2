-- Nothing but the words of the variants is read.
use Rattle.std.proofs.Common.{◌≡◌, sym, ap, ◌∙◌, eqb, nat_eq, option_map, option_and_then}
use Rattle.std.specs.Cmp.Lexicographic.{pointwise}
use Rattle.iloc_tinystr.specs.Number.{number}
use Rattle.iloc_tinystr.proofs.RawOrder.{number_same}
use Rattle.iloc_spec_parts.specs.Keywords.{enum_reads}
use Rattle.iloc_keyword_types.specs.WordTables.{table_place, word_at}
use Rattle.iloc_keyword_types.proofs.EnumLemmas.{answered, read_by_word, normal_word, variant}
use Rattle.iloc_keyword_types.proofs.TableLemmas.{first_by_word, find_same}
use Rattle.iloc_keyword_types.proofs.TextLemmas.{subtag_bytes}
use Rattle.iloc_keyword_types.proofs.enum_keyword.read_keyword.Goals.{After-first_with_number}
use Rattle.iloc_keyword_types.proofs.enum_keyword.read_keyword.Goals as goal

pub returns-in_default : goal.returns-in_default
returns-in_default g c =
    read_by_word g.E.EnumKeyword.keyword g.E.WordEnum.words g.met.E.EnumKeyword.same_words
    g.met.E.EnumKeyword.plain c.args.value.now
    ∙ sym (ap (option_and_then (λ w. option_map variant (table_place w g.E.WordEnum.words)))
    c.in_default.ensures.value)

module _ (g : _) (c : goal.After-first_with_number g) where
  -- two words are the same where their numbers are
  same : (v : g.row.E.Denot)
      → nat_eq c.number.result (number (word_at g.E.WordEnum.words (g.E.WordEnum.place v)))
      ≡ pointwise nat_eq c.in-Some.word (word_at g.E.WordEnum.words (g.E.WordEnum.place v))
  same v =
      let words = g.E.WordEnum.words in
      let normal = normal_word g.E.EnumKeyword.keyword words g.met.E.EnumKeyword.same_words
      (g.E.WordEnum.place v) _ (g.met.E.WordEnum.placed v) in
      ap (λ n. eqb n (number (word_at words (g.E.WordEnum.place v)))) c.number.ensures
      ∙ number_same c.in-Some.word _ (subtag_bytes _ c.in-Some.ensures.normal) (subtag_bytes _ normal)

  placed : option_map g.E.WordEnum.place c.first_with_number.result
      ≡ table_place c.in-Some.word g.E.WordEnum.words
  unfolding table_place
  placed =
      first_by_word (λ v. word_at g.E.WordEnum.words (g.E.WordEnum.place v)) g.E.WordEnum.place c.in-Some.word
      c.all.result.now c.first_with_number.result _
      (c.first_with_number.ensures ∙ find_same _ _ same c.all.result.now) c.all.ensures

pub returns : goal.returns
returns g c =
    rw c.ok_or.ensures.value
    (answered g.E.WordEnum.place c.first_with_number.result
    (enum_reads g.E.EnumKeyword.keyword c.args.value.now) (
    read_by_word g.E.EnumKeyword.keyword g.E.WordEnum.words g.met.E.EnumKeyword.same_words
    g.met.E.EnumKeyword.plain c.args.value.now
    ∙ sym (ap (option_and_then (λ w. option_map variant (table_place w g.E.WordEnum.words)))
    c.in-Some.ensures.value)
    ∙ sym (ap (option_map variant) (placed g (goal.at.returns g c).After-first_with_number))))

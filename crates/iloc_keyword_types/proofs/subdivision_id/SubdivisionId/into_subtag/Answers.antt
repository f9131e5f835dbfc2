use Rattle.std.proofs.Common.{◌≡◌, ◌∙◌, true, length, ap, subst, arith, lit<}
use Rattle.std.specs.Cmp.{second_so}
use Rattle.std.specs.Int.RustNames.{bit_or}
use Rattle.iloc_tinystr.specs.Number.{number}
use Rattle.iloc_tinystr.specs.TinyText.{is_tiny_text}
use Rattle.iloc_tinystr.proofs.TinyTextLemmas.{length-le-tiny}
use Rattle.iloc_spec_grammar.specs.Syntax.{Region, lower}
use Rattle.iloc_spec_grammar.proofs.WordsLaws.{is_word-lower}
use Rattle.iloc_subtags.specs.KindLaws.{region_fits, subdivision_suffix_fits}
use Rattle.iloc_subtags.proofs.KindLemmas.{region_lower}
use Rattle.iloc_spec_parts.specs.Subdivisions.{Subdivision, IsSubdivision}
use Rattle.iloc_spec_parts.proofs.SubdivisionLaws.{subdivision_back}
use Rattle.iloc_keyword_types.proofs.TextLemmas.{joined, joined_normal}
use Rattle.iloc_keyword_types.proofs.subdivision_id.SubdivisionId.into_subtag.Goals.{After-to_piece-2}
use Rattle.iloc_keyword_types.proofs.subdivision_id.SubdivisionId.into_subtag.Goals as goal

module _ (c : goal.After-to_piece-2) where
  whole : IsSubdivision c.args.self
  whole = subst IsSubdivision c.self.view_is
      (record { region = c.to_piece.ensures.normal; suffix = c.to_piece-2.ensures.normal })

  small : is_tiny_text 3 (lower c.args.self.region) ≡ true
  small = region_fits (lower c.args.self.region) (is_word-lower Region c.args.self.region ∙ whole.region.0)

  region : c.of_number-region.result ≡ lower c.args.self.region
  region =
      let own = c.number.ensures
      ∙ ap number (c.to_piece.ensures.value ∙ ap (λ (s : Subdivision). s.region) c.self.view_is) in
      c.of_number-region.ensures (lower c.args.self.region) (second_so _ _ small)
      (ap (λ y. bit_or y 8224) own ∙ region_lower c.args.self.region whole.region)

  suffix : c.to_piece-2.result ≡ c.args.self.suffix
  suffix = c.to_piece-2.ensures.value ∙ ap (λ (s : Subdivision). s.suffix) c.self.view_is

pub concat-requires : goal.concat-requires
concat-requires c =
    omega (
      arith,
      ap length (region c),
      length-le-tiny 3 (lower c.args.self.region) (small c),
      ap length (suffix c),
      length-le-tiny 4 c.args.self.suffix
          (subdivision_suffix_fits c.args.self.suffix (whole c).suffix.0),
    )

pub subtag_of_normal-requires : goal.subtag_of_normal-requires
subtag_of_normal-requires c =
    let at = (goal.at.subtag_of_normal-requires c).After-to_piece-2 in (
      lit< tt,
      joined_normal c.args.self (whole at) c.concat.result
          (joined c.args.self (whole at) c.of_number-region.result c.to_piece-2.result c.concat.result
          c.concat.ensures (region at) (suffix at)),
    )

pub returns-clause-text : goal.returns-clause-text
returns-clause-text c =
    let at = (goal.at.returns-clause-text c).After-to_piece-2 in
    c.subtag_of_normal.ensures
    ∙ joined c.args.self (whole at) c.of_number-region.result c.to_piece-2.result c.concat.result
    c.concat.ensures (region at) (suffix at)

pub returns-clause-back : goal.returns-clause-back
returns-clause-back c =
    let at = (goal.at.returns-clause-back c).After-to_piece-2 in
    subdivision_back c.args.self (whole at)

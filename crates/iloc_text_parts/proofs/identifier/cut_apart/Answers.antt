use Rattle.std.proofs.Common.{◌∙◌}
use Rattle.iloc_text_parts.proofs.CutLemmas.{after_region_is, after_script_is, base_is, extensions_are, first_is, region_is, script_is, variants_are}
use Rattle.iloc_text_parts.proofs.identifier.cut_apart.Goals as goal

pub returns-clause-parts : goal.returns-clause-parts
returns-clause-parts c = λ M w e.
    let n = c.args.normal.now in
    let s = c.split.ensures.rest in
    let r = c.take_script.ensures.rest ∙ after_script_is M w n e _ s in
    let v = c.take_region.ensures.rest ∙ after_region_is M w n e _ r in
    let x = extensions_are M w n e _ v c.take_longer.result.1.now c.take_longer.ensures.rest in
    record {
      language = c.split.ensures.piece ∙ first_is M w n e;
      script = script_is M w n e _ s c.take_script.result.0.now c.take_script.ensures.word;
      region = region_is M w n e _ r c.take_region.result.0.now c.take_region.ensures.word;
      variants = variants_are M w n e _ v c.take_longer.result.0.now c.take_longer.ensures.front;
      extensions = x;
      base_name = c.split_at.ensures.front ∙ base_is M w n e c.take_longer.result.1.now x;
    }

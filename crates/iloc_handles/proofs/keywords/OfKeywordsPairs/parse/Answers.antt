-- what is read, and when memory runs out, are one answer
use Rattle.std.proofs.Common.{◌≡◌, Ok, Err}
use Rattle.iloc_spec_parts.specs.PartValues.{unicode_value}
use Rattle.iloc_subtags.proofs.Judged.{with_memory}
use Rattle.iloc_word_list.specs.Reads.{ValueTextWants}
use Rattle.iloc_handles.proofs.keywords.OfKeywordsPairs.parse.Goals as goal

pub returns : goal.returns
returns c =
    let t = c.args.text.now in
    with_memory (λ v. unicode_value t ≡ Ok v) (λ f. unicode_value t ≡ Err f) (ValueTextWants t)
    c.try_from_utf8.result c.try_from_utf8.ensures.reads c.try_from_utf8.ensures.memory

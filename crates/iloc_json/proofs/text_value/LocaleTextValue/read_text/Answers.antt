-- what is read, and when memory runs out, are one answer; a text is read as its bytes are
use Rattle.std.proofs.Common.{subst, length}
use Rattle.iloc_spec_grammar.specs.Syntax.{Text}
use Rattle.iloc_memory.specs.Refusals.{RefusedWithin}
use Rattle.iloc_subtags.specs.Judging.{RunsOutOnlyIf}
use Rattle.iloc_locale.proofs.ReadLemmas.{reads_answer}
use Rattle.iloc_json.specs.Answers.{IsLocaleAnswer}
use Rattle.iloc_json.proofs.text_value.LocaleTextValue.read_text.Goals as goal

pub returns-clause-reads : goal.returns-clause-reads
returns-clause-reads g c =
    subst (λ (t : Text). IsLocaleAnswer t c.try_from_utf8_in.result) c.as_bytes.ensures.value (record {
      reads = reads_answer c.as_bytes.result.now c.try_from_utf8_in.result c.try_from_utf8_in.ensures.reads
          c.try_from_utf8_in.ensures.memory;
      accepted = c.try_from_utf8_in.ensures.accepted;
      refused = c.try_from_utf8_in.ensures.refused;
    })

pub returns-clause-out_of_memory : goal.returns-clause-out_of_memory
returns-clause-out_of_memory g c = subst
    (λ (t : Text). RunsOutOnlyIf (RefusedWithin g.M.Memory.refused (length t)) c.try_from_utf8_in.result)
    c.as_bytes.ensures.value c.try_from_utf8_in.ensures.out_of_memory

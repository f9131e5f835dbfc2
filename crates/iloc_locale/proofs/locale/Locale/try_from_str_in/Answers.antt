-- a text is read as its bytes are
use Rattle.std.proofs.Common.{subst, length}
use Rattle.iloc_memory.specs.Refusals.{RefusedWithin}
use Rattle.iloc_locale.specs.LocaleReading.{LocaleTextReads, LocaleWantsMemory}
use Rattle.iloc_subtags.specs.Judging.{RunsOutOnlyIf}
use Rattle.iloc_locale.proofs.ReadLemmas.{reads_accepts, reads_refuses, reads_narrow}
use Rattle.iloc_locale.proofs.locale.Locale.try_from_str_in.Goals as goal
use Rattle.iloc_spec_grammar.specs.Syntax.{Text}

pub returns-clause-reads : goal.returns-clause-reads
returns-clause-reads g c = subst (λ (t : Text). LocaleTextReads t c.try_from_utf8_in.result)
    c.as_bytes.ensures.value c.try_from_utf8_in.ensures.reads

pub returns-clause-memory : goal.returns-clause-memory
returns-clause-memory g c = subst
    (λ (t : Text). RunsOutOnlyIf (LocaleWantsMemory t) c.try_from_utf8_in.result)
    c.as_bytes.ensures.value c.try_from_utf8_in.ensures.memory

pub returns-clause-out_of_memory : goal.returns-clause-out_of_memory
returns-clause-out_of_memory g c = subst
    (λ (t : Text). RunsOutOnlyIf (RefusedWithin g.M.Memory.refused (length t)) c.try_from_utf8_in.result)
    c.as_bytes.ensures.value c.try_from_utf8_in.ensures.out_of_memory

pub returns-clause-accepted : goal.returns-clause-accepted
returns-clause-accepted g c = reads_accepts c.args.s.now c.try_from_utf8_in.result (returns-clause-reads g c)

pub returns-clause-refused : goal.returns-clause-refused
returns-clause-refused g c = reads_refuses c.args.s.now c.try_from_utf8_in.result (returns-clause-reads g c)

pub returns-clause-narrow : goal.returns-clause-narrow
returns-clause-narrow g c = reads_narrow c.args.s.now c.try_from_utf8_in.result (returns-clause-reads g c)

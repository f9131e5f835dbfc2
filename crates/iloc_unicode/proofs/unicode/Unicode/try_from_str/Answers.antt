-- what is owed to each text follows from what is read
use Rattle.std.proofs.Common.{subst}
use Rattle.iloc_subtags.specs.Judging.{RunsOutOnlyIf}
use Rattle.iloc_unicode.specs.UnicodeReads.{UnicodeTextReads, UnicodeTextWants}
use Rattle.iloc_unicode.proofs.OwedLemmas.{unicode_accepts, unicode_refuses}
use Rattle.iloc_unicode.proofs.unicode.Unicode.try_from_str.Goals as goal
use Rattle.iloc_spec_grammar.specs.Syntax.{Text}

pub returns-clause-reads : goal.returns-clause-reads
returns-clause-reads c = subst (λ (t : Text). UnicodeTextReads t c.try_from_utf8_in.result)
    c.as_bytes.ensures.value c.try_from_utf8_in.ensures.reads

pub returns-clause-memory : goal.returns-clause-memory
returns-clause-memory c = subst (λ (t : Text). RunsOutOnlyIf (UnicodeTextWants t) c.try_from_utf8_in.result)
    c.as_bytes.ensures.value c.try_from_utf8_in.ensures.memory

pub returns-clause-accepted : goal.returns-clause-accepted
returns-clause-accepted c = unicode_accepts c.args.s.now c.try_from_utf8_in.result (returns-clause-reads c)

pub returns-clause-refused : goal.returns-clause-refused
returns-clause-refused c = unicode_refuses c.args.s.now c.try_from_utf8_in.result (returns-clause-reads c)

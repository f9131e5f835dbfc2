use Rattle.iloc_program.specs.Output.{WritesAll, WritesBeginning}
use Rattle.iloc_program.proofs.RunLemmas.{on_err}
use Rattle.locale_normal.proofs.FlushLemmas.{on_ok, writes_all, writes_beginning}
use Rattle.locale_normal.proofs.answer.Goals as goal

pub returns-clause-ok : goal.returns-clause-ok
returns-clause-ok g c =
    on_ok c.flush.result
    (WritesAll c.args.mode (g.R.Read.remaining c.args.reader.now) (g.R.Read.remaining c.run.new.reader)
    (g.W.Write.contents c.args.writer.now) (g.W.Write.contents c.flush.new.writer))
    (writes_all c.args.mode (g.R.Read.remaining c.args.reader.now) (g.R.Read.remaining c.run.new.reader)
    (g.W.Write.contents c.args.writer.now) (g.W.Write.contents c.run.new.writer)
    (g.W.Write.contents c.flush.new.writer) c.in_ok-run.ensures.ok c.flush.ensures.bytes)

pub returns-clause-err : goal.returns-clause-err
returns-clause-err g c =
    on_err c.flush.result
    (WritesBeginning c.args.mode (g.R.Read.remaining c.args.reader.now) (g.R.Read.remaining c.run.new.reader)
    (g.W.Write.contents c.args.writer.now) (g.W.Write.contents c.flush.new.writer))
    (writes_beginning c.args.mode (g.R.Read.remaining c.args.reader.now) (g.R.Read.remaining c.run.new.reader)
    (g.W.Write.contents c.args.writer.now) (g.W.Write.contents c.run.new.writer)
    (g.W.Write.contents c.flush.new.writer) c.in_ok-run.ensures.ok c.flush.ensures.bytes)

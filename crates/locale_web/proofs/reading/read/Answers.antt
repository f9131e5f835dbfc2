-- A data locale is read as it is, whatever the spans.
use Rattle.locale_web.proofs.reading.read.Goals as goal

pub returns-in-Data : goal.returns-in-Data
returns-in-Data c = rw c.in-Data.is (c.read_data.ensures c.args.spans.now)

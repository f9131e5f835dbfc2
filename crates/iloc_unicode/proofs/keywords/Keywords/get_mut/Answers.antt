use Rattle.std.proofs.Common.{ap, ◌∙◌}
use Rattle.std.specs.FinMap.{find, put}
use Rattle.std.specs.Option.{ghost_name_of}
use Rattle.iloc_spec_grammar.specs.Syntax.{word_cmp, Fields}
use Rattle.iloc_unicode.proofs.keywords.Keywords.get_mut.Goals as goal
use borrow.Follows.Closed.{read_of}

pub returns : goal.returns
returns c = (
  ap (λ (es : Fields). read_of (ghost_name_of c.get_mut.result) (λ v. put word_cmp c.args.key.now v es) es)
      c.self.view_is,
  record {
    writes_back = tt;
    value = c.get_mut.ensures.value ∙ ap (find word_cmp c.args.key.now) c.self.view_is;
  },
)

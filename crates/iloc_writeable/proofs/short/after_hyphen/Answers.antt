use Rattle.std.proofs.Common.{◌∷◌, append-nil, ap, ◌∙◌}
use Rattle.iloc_writeable.proofs.short.after_hyphen.Goals as goal

pub returns : goal.returns
returns c = ap (λ l. 45 ∷ l) (append-nil c.copy_from_slice.new.self ∙ c.copy_from_slice.ensures.after)

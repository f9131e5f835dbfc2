use Rattle.std.proofs.Common.{◌≡◌, ◌+◌, ◌-◌, ◌≤◌, length, take, arith, ◌∙◌}
use Rattle.iloc_pieces.proofs.WindowLemmas.{text_of_cut}
use Rattle.iloc_normalize.proofs.OutlinedLemmas.{few_answered}
use Rattle.iloc_normalize.proofs.window.answer_text.Goals as goal
use Rattle.iloc_spec_grammar.specs.Syntax.{Text}

-- the text in the window
module _ (t w : Text) (front : take (length t) w ≡ t) (inside : length t + 16 ≤ length w) where
  cut : take (length (take (length t + 16) w) - 16) (take (length t + 16) w) ≡ t
  cut = text_of_cut w (length t) inside ∙ front

pub returns-clause-answered : goal.returns-clause-answered
returns-clause-answered c = grind (arith, cut)

pub returns-clause-few : goal.returns-clause-few
returns-clause-few c = grind (arith, few_answered, cut)

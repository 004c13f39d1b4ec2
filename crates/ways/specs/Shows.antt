-- What a call that shows a way promises: what it returns and what stands in the lent slices afterwards.
use Rattle.std.specs.Prelude.{ℕ, ◌≡◌, List, Result, Ok, Err}
use Rattle.rules.specs.Refusals.{refusal_number}
use Rattle.rules.specs.Ways.{Shown}
use Rattle.rules.specs.declared.Passage.{Passage}
use Rattle.rules.specs.declared.refusal.Refusal.{Refusal}

-- the answer as one value
abbrev pub shown_by : Passage → List ℕ → List ℕ → Shown
shown_by r way work = record { result = r; way = way; work = work }

-- the result, and the slices afterwards, are those of the rules
pub record Shows (s : Shown) (r : Passage) (way work : List ℕ) : Type 0 where
  pub result_is : r ≡ s.result
  pub way_is : way ≡ s.way
  pub work_is : work ≡ s.work

-- what the call returns: how many corners the way has, or the number of the refusal
abbrev pub passage_from : Result ℕ Refusal → Passage
passage_from (Ok n) = record { number = 0; corners = n }
passage_from (Err r) = record { number = refusal_number r; corners = 0 }

-- `asking::key_data` meets its contract. Assumes nothing.
use Rattle.asking.proofs.Laws.{data_none, data_one}
use Rattle.asking.proofs.key_data.Goals as goal

pub returns-in-None : goal.returns-in-None
returns-in-None c = λ m fits. data_none m _ c.in-None.is

pub returns-in-Some : goal.returns-in-Some
returns-in-Some c = λ m fits. data_one m _ _ _ c.in-Some.is fits

-- `comparing::data_fields` meets its contract. Assumes nothing.
use Rattle.comparing.proofs.DataLaws.{data_tkey, data_whole}
use Rattle.comparing.proofs.data_fields.Goals as goal

pub returns-then-kind-eq249 : goal.returns-then-kind-eq249
returns-then-kind-eq249 c = data_tkey _ _ _ _ c.tkey_data.result c.if-kind-eq249.true c.tkey_data.ensures

pub returns : goal.returns
returns c = data_whole _ _ _ _ c.rest.result c.if-kind-eq249.false c.rest.ensures

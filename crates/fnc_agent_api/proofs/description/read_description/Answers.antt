use Rattle.serde_json.specs.View.{view}
use Rattle.fnc_agent_api.proofs.DescriptionBounds.{IfOk-described}
use Rattle.fnc_agent_api.proofs.description.read_description.Goals as goal

pub returns-clause-bounded : goal.returns-clause-bounded
returns-clause-bounded c = IfOk-described (view c.in_ok-value.value) c.describe.result c.describe.ensures

use Rattle.serde_json.specs.View.{view}
use Rattle.am_config.proofs.Configs.{of_json}
use Rattle.am_config.proofs.config.Config.read.Goals as goal

pub returns-in-Ok : goal.returns-in-Ok
returns-in-Ok c = of_json c.args.bytes.now (view c.in-Ok.value) _ c.in-Ok.ensures.ok c.from_value.ensures

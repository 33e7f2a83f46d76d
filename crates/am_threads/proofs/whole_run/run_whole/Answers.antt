use denote.Param.Send.{sendable}
use Rattle.am_config.proofs.Crossing.{config_sync}
use Rattle.am_threads.proofs.whole_run.run_whole.Goals as goal

-- a configuration is one that threads may share
pub run_configured-requires-sync-C : goal.run_configured-requires-sync-C
run_configured-requires-sync-C g c κs within = search (sendable, config_sync) depth 30

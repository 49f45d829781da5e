-- How events that are recorded name the runs of a stress run.
use Rattle.std.specs.Prelude.{Option, Some, None, option_map}
use Rattle.rec_events.specs.declared.instances.StressIndexSummary.{StressIndexSummary}
use Rattle.rec_events.specs.declared.live_stress.StressCondition.TheVariants as condition
use Rattle.rec_events.specs.declared.live_stress.StressCondition.{StressCondition}
use Rattle.rec_events.specs.declared.live_stress.StressCount.TheVariants as count
use Rattle.rec_events.specs.declared.live_stress.StressIndex.{StressIndex}
use Rattle.rec_events.specs.declared.stress.StressConditionSummary.TheVariants as recorded
use Rattle.rec_events.specs.declared.stress.StressConditionSummary.{StressConditionSummary}

abbrev pub stress_index_summary : StressIndex → StressIndexSummary
stress_index_summary i = record { current = i.current; total = i.total }

abbrev pub condition_summary : StressCondition → StressConditionSummary
condition_summary (condition.Count (count.Count n)) = recorded.Count (Some n)
condition_summary (condition.Count count.Infinite) = recorded.Count None
condition_summary (condition.Duration time) = recorded.Duration time

abbrev pub index_summary : Option StressIndex → Option StressIndexSummary
index_summary i = option_map stress_index_summary i

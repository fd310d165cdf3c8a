use Rattle.std.proofs.Common.{◌≡◌, ◌≤◌, length, slice_index_or, unwrap_or, sym, ◌∙◌, inl, inr, arith, rules}
use Rattle.std.specs.List.{slice_get}
use Rattle.std.proofs.lemmas.List.{get_or_past}
use Rattle.std.proofs.lemmas.Bool.{cases_lt}
use Rattle.bounded.proofs.Laws.{held_fits}
use Rattle.project.specs.Project.{plan}
use Rattle.runtime.specs.Meant.{no_sensor}
use Rattle.runtime.proofs.Sensors.{slice_get-or}
use Rattle.runtime.proofs.opening.sensor_rows.Goals as goal

pub returns-clause-known : goal.returns-clause-known
returns-clause-known c x = elim (cases_lt x 16) [
  | inl h ↦
      let row = c.from_fn.ensures.items.at x no_sensor h in
      let k = row.2 in
      let same : (slice_index_or c.from_fn.result x no_sensor).lateness ≡ unwrap_or (slice_get (plan c.args.project.now).sensors x) 0 = search rules in
      same ∙ slice_get-or _ x
  | inr h ↦
      let few = held_fits c.args.project.now.draft.sensors in
      let long = c.from_fn.ensures.items.long in
      let none : length (plan c.args.project.now).sensors ≤ x = omega arith in
      let far : length c.from_fn.result ≤ x = omega arith in
      rw (get_or_past _ x no_sensor far) (sym (get_or_past _ x 0 none))
]

-- Why `gathered` meets its contract. Assumes nothing.
use Rattle.std.proofs.Common.{ℕ, ◌-◌, Bool, List, [], ◌∷◌, ◌++◌, set, replicate, sym, ap, ◌∙◌, subst, arith}
use Rattle.std.proofs.lemmas.List.{append_assoc, append-nil}
use Rattle.rule.specs.FlowSets.{marks_of, flows_left}
use Rattle.rule.proofs.FlowSets.{marks_of_length, next_flow}
use Rattle.search.specs.Candidates.{time_told}
use Rattle.search.proofs.Gathering.{Gathering, time_by, gathering_none, gathering_some, gathering_skip, gathered_kept, gathered_entries}
use Rattle.search.proofs.candidates.gathered.Goals as goal

pub loop-f-init : goal.loop-f-init
loop-f-init g c = (
  λ asked h.
      let told = time_told (g.R.Rule.meaning c.args.rule.now) asked (marks_of c.args.free) in
      subst (λ (s : List Bool). Gathering told [] s (replicate 20 0)) (sym c.none-set.ensures) (gathering_none told),
  c.into_iter-f-iterator.ensures.into_iter_gives,
)

pub bounds-slack-f : goal.bounds-slack-f
bounds-slack-f g c = let p = next_flow c.loop-f.f-iterator c.in-Some.f (flows_left c.next.new.self) c.in-Some.ensures.steps in omega arith

pub loop-f-preserved-in-Some-slack_told : goal.loop-f-preserved-in-Some-slack_told
loop-f-preserved-in-Some-slack_told g c =
    let f = c.in-Some.f in
    let seen = c.loop-f.yielded in
    let rest = flows_left c.next.new.self in
    let p = next_flow c.loop-f.f-iterator f rest c.in-Some.ensures.steps in (
      λ asked h.
          let m = g.R.Rule.meaning c.args.rule.now in
          let free = marks_of c.args.free in
          let told = time_told m asked free in
          let t = c.in-Some-slack_told.time in
          subst (λ (s : List Bool). Gathering told (seen ++ f ∷ []) s (set c.loop-f.slack (f - 1) t)) (sym c.with-set.ensures)
          (gathering_some told seen (marks_of c.loop-f.set) c.loop-f.slack f p.0 p.1 (c.loop-f.invariant.0 asked h) t
          (sym (c.in-Some-slack_told.ensures ∙ time_by m asked free (marks_of c.without.result) f c.answer.result c.deadline.result c.without.ensures (h f (omega arith) c.without.result c.answer.result c.answer.ensures) c.deadline.ensures))),
      append_assoc seen (f ∷ []) rest ∙ ap (λ (xs : List ℕ). seen ++ xs) (sym c.in-Some.ensures.steps) ∙ c.loop-f.invariant.1,
    )

pub loop-f-preserved : goal.loop-f-preserved
loop-f-preserved g c =
    let f = c.in-Some.f in
    let seen = c.loop-f.yielded in
    let rest = flows_left c.next.new.self in
    let p = next_flow c.loop-f.f-iterator f rest c.in-Some.ensures.steps in (
      λ asked h.
          let m = g.R.Rule.meaning c.args.rule.now in
          let free = marks_of c.args.free in
          gathering_skip (time_told m asked free) seen (marks_of c.loop-f.set) c.loop-f.slack f p.0 p.1 (c.loop-f.invariant.0 asked h)
          (sym (c.in_default.ensures ∙ time_by m asked free (marks_of c.without.result) f c.answer.result c.deadline.result c.without.ensures (h f (omega arith) c.without.result c.answer.result c.answer.ensures) c.deadline.ensures)),
      append_assoc seen (f ∷ []) rest ∙ ap (λ (xs : List ℕ). seen ++ xs) (sym c.in-Some.ensures.steps) ∙ c.loop-f.invariant.1,
    )

pub returns : goal.returns
returns g c =
    λ asked h.
    let free = marks_of c.args.free in
    let told = time_told (g.R.Rule.meaning c.args.rule.now) asked free in
    let seen = c.loop-f.yielded in
    let all = sym (append-nil seen) ∙ ap (λ (xs : List ℕ). seen ++ xs) (sym c.in-None.ensures.steps.0) ∙ c.loop-f.invariant.1 in
    record {
      kept = gathered_kept told free (marks_of_length c.args.free) seen all (marks_of c.loop-f.set) c.loop-f.slack (c.loop-f.invariant.0 asked h);
      entries = gathered_entries told free (marks_of_length c.args.free) seen all (marks_of c.loop-f.set) c.loop-f.slack (c.loop-f.invariant.0 asked h);
    }

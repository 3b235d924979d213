use Rattle.std.proofs.Common.{rules, arith, length, ℕ, All, ◌<◌, subst, ◌∙◌}
use Rattle.std.proofs.lemmas.List.Elements.{All-set}
use Rattle.class_book.specs.Classes.{Classes}
use Rattle.chase_core.specs.Setup.{Preparation}
use Rattle.steal_pool.specs.Batches.{IsJob}
use Rattle.steal_pool.specs.Workspaces.{IsOwnDeque, ReachEach, IsPlace}
use Rattle.steal_pool.proofs.batch.take_all.Goals as goal

pub loop-k-preserved : goal.loop-k-preserved
loop-k-preserved c =
    let v = c.loop-k.invariant in
    let h = c.hint_unless-hint.ensures in
    let t = c.fill_job.ensures in
    let S = c.args.shared.now.chase.setup in
    let B = c.args.shared.now.chase.book in
    let jobs = c.hint_unless-hint.new.workspace.jobs.items in
    let within : c.loop-k.k < length jobs = rw h.jobs (omega arith) in
    let places : All (IsPlace S.widest c.args.board.now) jobs = rw h.jobs v.workspace.places in
    record {
      count = search rules;
      setup = t.setup ∙ v.setup;
      book = t.book ∙ v.book;
      scribe = t.scribe ∙ v.scribe;
      jobs = All-set (IsJob S.task B.journal) jobs c.loop-k.k c.fill_job.new.job
          (subst (λ (Z : Preparation). IsJob Z.task B.journal c.fill_job.new.job) v.setup (subst (λ (b : Classes). IsJob c.loop-k.shared.chase.setup.task b.journal c.fill_job.new.job) v.book t.job))
          (rw h.jobs v.jobs);
      workspace = record {
        count = h.count ∙ c.requires.workspace.count;
        own = subst (λ (n : ℕ). IsOwnDeque n c.hint_unless-hint.new.workspace.own) c.requires.workspace.count h.own;
        passes = subst (λ (n : ℕ). ReachEach n c.args.thieves.now c.hint_unless-hint.new.workspace.steal_passes.items) c.requires.workspace.count h.passes;
        pending = subst (λ (n : ℕ). All (λ p. p < n) c.hint_unless-hint.new.workspace.pending.items) c.requires.workspace.count h.pending;
        places = All-set (IsPlace S.widest c.args.board.now) jobs c.loop-k.k c.fill_job.new.job
            (subst (λ (S' : Preparation). IsPlace S'.widest c.args.board.now c.fill_job.new.job) v.setup t.place)
            places;
      };
    }

pub returns-then-is_through-clause-workspace : goal.returns-then-is_through-clause-workspace
returns-then-is_through-clause-workspace c =
    let v = c.loop-k.invariant in
    let h = c.hint_unless-hint.ensures in
    let S = c.args.shared.now.chase.setup in
    c.search_or.ensures.workspace (length S.task.pairs) S.widest c.args.board.now c.args.thieves.now (record {
      count = h.count ∙ c.requires.workspace.count;
      own = subst (λ (n : ℕ). IsOwnDeque n c.hint_unless-hint.new.workspace.own) c.requires.workspace.count h.own;
      passes = subst (λ (n : ℕ). ReachEach n c.args.thieves.now c.hint_unless-hint.new.workspace.steal_passes.items) c.requires.workspace.count h.passes;
      pending = subst (λ (n : ℕ). All (λ p. p < n) c.hint_unless-hint.new.workspace.pending.items) c.requires.workspace.count h.pending;
      places = rw h.jobs v.workspace.places;
    })

pub returns-then-dry-2-clause-workspace : goal.returns-then-dry-2-clause-workspace
returns-then-dry-2-clause-workspace c =
    let v = c.loop-k.invariant in
    let h = c.hint_unless-hint.ensures in
    let S = c.args.shared.now.chase.setup in
    let jobs = c.hint_unless-hint.new.workspace.jobs.items in
    let places : All (IsPlace S.widest c.args.board.now) jobs = rw h.jobs v.workspace.places in
    c.search_or-then-dry-2.ensures.workspace (length S.task.pairs) S.widest c.args.board.now c.args.thieves.now (record {
      count = h.count ∙ c.requires.workspace.count;
      own = subst (λ (n : ℕ). IsOwnDeque n c.hint_unless-hint.new.workspace.own) c.requires.workspace.count h.own;
      passes = subst (λ (n : ℕ). ReachEach n c.args.thieves.now c.hint_unless-hint.new.workspace.steal_passes.items) c.requires.workspace.count h.passes;
      pending = subst (λ (n : ℕ). All (λ p. p < n) c.hint_unless-hint.new.workspace.pending.items) c.requires.workspace.count h.pending;
      places = All-set (IsPlace S.widest c.args.board.now) jobs c.loop-k.k c.fill_job.new.job
          (subst (λ (S' : Preparation). IsPlace S'.widest c.args.board.now c.fill_job.new.job) v.setup c.fill_job.ensures.place)
          places;
    })

pub returns-clause-workspace : goal.returns-clause-workspace
returns-clause-workspace c =
    let S = c.args.shared.now.chase.setup in
    c.search_or-2.ensures.workspace (length S.task.pairs) S.widest c.args.board.now c.args.thieves.now c.loop-k.invariant.workspace

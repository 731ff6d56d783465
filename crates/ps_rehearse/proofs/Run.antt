-- What is promised of a rehearsal is a run whose numbers don't depend on how its streams interleave.
use Rattle.std.proofs.Common.{◌≡◌, ℕ, ◌<◌, ◌≤◌, ◌^◌, List, ◌++◌, sym, ap, subst, ◌∙◌, arith}
use Rattle.std.specs.Prelude.{count_by}
use Rattle.std.specs.List.{AllByRecursion as Each}
use Rattle.ps_base.proofs.Rows.{count_by-cons}
use Rattle.ps_types.specs.declared.entry.Entry.{Entry}
use Rattle.ps_types.specs.declared.entry.Entry.TheVariants.{Boot}
use Rattle.ps_rehearse_laws.specs.Rehearsal.{Numbers as Reported, is_change, rehearsal}
use Rattle.ps_rehearse_laws.specs.Runs.{HasRehearsed, HasServed, IsOf, reported, two_hosts}
use Rattle.ps_rehearse_laws.proofs.Whole.{read-a, read-b, told-a, told-b}
use Rattle.ps_rehearse_laws.proofs.Whole as whole
use Rattle.ps_rehearse.specs.Entries.{the_service}
use Rattle.ps_rehearse.specs.Rehearsed.{Rehearsed, the_base}
use Rattle.ps_rehearse.specs.declared.numbers.Numbers.{Numbers}
use Rattle.ps_rehearse.specs.Laws.{AreNumbers}
use Rattle.ps_rehearse.proofs.Forward.{first-dealt, second-dealt}
use Rattle.ps_rehearse.proofs.Own.{changes-count, made-of, ours-to}
use Rattle.ps_rehearse.proofs.Sinks.{errors-count, notices-count, results-count}

module _ (seed count : ℕ) (few : count ≤ 100000) (n : Numbers) (is : Rehearsed seed count n) where
  first : HasServed seed count is.world 0 is.first.lines is.first.words
  first =
      let s = is.first.served in
      record {
        stand = s.stand;
        dealt = first-dealt seed count is.first.lines s.came s.room;
        said = s.all;
        own = ours-to _ is.first.words s.ours;
      }

  second : HasServed seed count is.world 1 is.second.lines is.second.words
  second =
      let s = is.second.served in
      record {
        stand = s.stand;
        dealt = second-dealt seed count is.second.lines s.came s.room;
        said = s.all;
        own = ours-to _ is.second.words s.ours;
      }

  same-since : is.since ≡ first.stand.since
  same-since = let e : the_base ++ is.since ≡ the_base ++ first.stand.since = sym is.begins ∙ first.stand.list in cc e

  run : HasRehearsed seed count is.world is.first.lines is.second.lines is.first.words is.second.words
  run = record {
    lawful = is.lawful;
    first = first;
    second = second;
    since = subst (Each (IsOf two_hosts)) same-since (made-of is.since is.made);
  }

  short : count < 2 ^ 64
  short = omega (arith, few)

  abbrev told : Reported
  told = reported is.world is.first.lines is.second.lines is.first.words is.second.words

  law : told ≡ rehearsal seed count
  law = whole.same-numbers seed count short is.world is.first.lines is.second.lines is.first.words is.second.words run

  commits-are : n.commits ≡ count_by is_change is.world.entries
  commits-are =
      let e = ap (λ (E : List Entry). count_by is_change E) is.begins in
      let p = count_by-cons is_change (Boot the_service) is.since in
      let c = changes-count is.since in
      let h = is.commits in
      omega (arith, e, p, c, h)

  results-are : n.results ≡ told.results
  results-are =
      let a = results-count is.first.words in
      let b = results-count is.second.words in
      let h = is.results in
      omega (arith, a, b, h)

  errors-are : n.errors ≡ told.errors
  errors-are =
      let a = errors-count is.first.words in
      let b = errors-count is.second.words in
      let h = is.errors in
      omega (arith, a, b, h)

  notices-are : n.notices ≡ told.notices
  notices-are =
      let a = notices-count is.first.words
      (told-a seed count short is.world is.first.lines is.second.lines is.first.words is.second.words run)
      (read-a seed count short is.world is.first.lines is.second.lines is.first.words is.second.words run) in
      let b = notices-count is.second.words
      (told-b seed count short is.world is.first.lines is.second.lines is.first.words is.second.words run)
      (read-b seed count short is.world is.first.lines is.second.lines is.first.words is.second.words run) in
      let h = is.notices in
      omega (arith, a, b, h)

  pub same-numbers : AreNumbers n (rehearsal seed count)
  same-numbers = record {
    stanzas = is.stanzas;
    commits = commits-are ∙ ap (λ (m : Reported). m.commits) law;
    results = results-are ∙ ap (λ (m : Reported). m.results) law;
    errors = errors-are ∙ ap (λ (m : Reported). m.errors) law;
    notices = notices-are ∙ ap (λ (m : Reported). m.notices) law;
  }

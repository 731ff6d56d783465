-- The workers of all hosts are parted, two by two.
use Rattle.std.proofs.Common.{◌≡◌, ◌<◌, List, [], ◌∷◌, ◌++◌, length, refl, ap, sym, ◌∙◌, subst, arith}
use Rattle.ps_disk.specs.declared.device.Disk.{Ghosts}
use Rattle.ps_workers.specs.Teams.{ArePaired, IsReading, IsWriting, ended_by, ended_in, passes_in}
use Rattle.ps_workers.specs.declared.serving.Ended.{Ended}
use Rattle.ps_hall.specs.declared.hall.HostPasses.{HostPasses}
use Rattle.ps_hall.specs.declared.hall.Pass.{Pass}
use Rattle.ps_workers.specs.declared.work.Work.{Work}
use Rattle.ps_workers.specs.declared.work.Work.TheVariants.{Reader, Writer}
use Rattle.ps_workers.specs.declared.work.Worker.{Worker}
use Rattle.ps_trace.proofs.Completing.{none-left}

ended_more : {L C K : Type 0} (a b : Work L C K) (e : Ended L C K) (rest : List (Ended L C K)) → ended_by a b [] ≡ e ∷ [] → ended_by a b rest ≡ e ∷ rest
ended_more (Reader lines clock end) (Writer sink why) e rest is = cc is
ended_more (Reader lines clock end) (Reader other clock_too end_too) e rest is = absurd (cc is)
ended_more (Writer sink why) b e rest is = absurd (cc is)

assoc : {X : Type 0} (xs ys zs : List X) → (xs ++ ys) ++ zs ≡ xs ++ (ys ++ zs)
assoc [] ys zs = refl
assoc (x ∷ xs) ys zs = ap (λ l. x ∷ l) (assoc xs ys zs)

nil_right : {X : Type 0} (xs : List X) → xs ++ [] ≡ xs
nil_right [] = refl
nil_right (x ∷ xs) = ap (λ l. x ∷ l) (nil_right xs)

module _ {B D L C K : Type 0} {g : Ghosts D} where
  -- behind a reader stands its writer
  pub one_more : (all rest : List (Worker (Pass B D g) L C K)) (r : Worker (Pass B D g) L C K) → all ≡ r ∷ rest → ArePaired all → 0 < length rest
  one_more all rest r is paired = behind rest (subst (λ (l : List (Worker (Pass B D g) L C K)). ArePaired l) is paired)
    where
      behind : (rest : List (Worker (Pass B D g) L C K)) → ArePaired (r ∷ rest) → 0 < length rest
      behind [] p = absurd p
      behind (w ∷ ws) p = omega arith

  pub two_more : (all ws : List (Worker (Pass B D g) L C K)) (r w : Worker (Pass B D g) L C K) → all ≡ r ∷ w ∷ ws → ArePaired all → IsReading r.work × IsWriting w.work × ArePaired ws
  two_more all ws r w is paired = subst (λ (l : List (Worker (Pass B D g) L C K)). ArePaired l) is paired

  pub passes_on : (all ws whole : List (Worker (Pass B D g) L C K)) (r w : Worker (Pass B D g) L C K) (old new : List (HostPasses B D g)) → all ≡ r ∷ w ∷ ws
      → new ≡ old ++ record { reader = r.pass; writer = w.pass } ∷ [] → old ++ passes_in all ≡ passes_in whole → new ++ passes_in ws ≡ passes_in whole
  passes_on all ws whole r w old new is pushed so_far =
      let both : HostPasses B D g = record { reader = r.pass; writer = w.pass } in
      ap (λ l. l ++ passes_in ws) pushed ∙ (assoc old (both ∷ []) (passes_in ws) ∙ (ap (λ (l : List (Worker (Pass B D g) L C K)). old ++ passes_in l) (sym is) ∙ so_far))

  pub ended_on : (all ws whole : List (Worker (Pass B D g) L C K)) (r w : Worker (Pass B D g) L C K) (e : Ended L C K) (old new : List (Ended L C K)) → all ≡ r ∷ w ∷ ws
      → ended_by r.work w.work [] ≡ e ∷ [] → new ≡ old ++ e ∷ [] → old ++ ended_in all ≡ ended_in whole → new ++ ended_in ws ≡ ended_in whole
  ended_on all ws whole r w e old new is made pushed so_far =
      ap (λ l. l ++ ended_in ws) pushed ∙ (assoc old (e ∷ []) (ended_in ws)
      ∙ (ap (λ l. old ++ l) (sym (ended_more r.work w.work e (ended_in ws) made)) ∙ (ap (λ (l : List (Worker (Pass B D g) L C K)). old ++ ended_in l) (sym is) ∙ so_far)))

  pub passes_all : (rest whole : List (Worker (Pass B D g) L C K)) (passes : List (HostPasses B D g)) → length rest ≡ 0 → passes ++ passes_in rest ≡ passes_in whole → passes ≡ passes_in whole
  passes_all rest whole passes none so_far = sym (nil_right passes) ∙ (ap (λ (l : List (Worker (Pass B D g) L C K)). passes ++ passes_in l) (sym (none-left rest none)) ∙ so_far)

  pub ended_all : (rest whole : List (Worker (Pass B D g) L C K)) (ended : List (Ended L C K)) → length rest ≡ 0 → ended ++ ended_in rest ≡ ended_in whole → ended ≡ ended_in whole
  ended_all rest whole ended none so_far = sym (nil_right ended) ∙ (ap (λ (l : List (Worker (Pass B D g) L C K)). ended ++ ended_in l) (sym (none-left rest none)) ∙ so_far)

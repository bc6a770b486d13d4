-- What the answer to a read of a loose ref says of the ref.
use Rattle.std.proofs.Common.{◌≡◌, ℕ, List, Option, Some, None, Result, Ok, Err, ◌∙◌, ap, sym, subst}
use Rattle.std.specs.Result.{IsErrAnd}
use Rattle.gb_text.specs.Folder.{joined}
use Rattle.gb_text.specs.declared.id.Name.{Name}
use Rattle.gb_store.specs.Files.{Files}
use Rattle.packed_refs.specs.Packed.{head_of}
use Rattle.ref_store.specs.Refs.{Absent, Answers, Bad, Head, head_if, packed_at, ref_at, ref_of}
use Rattle.ref_store.specs.declared.fault.RefFault.{RefFault}
use Rattle.ref_store.specs.declared.fault.RefFault.TheVariants as fault
use Rattle.ref_store.proofs.FrameLemmas.{by_loose}

module _ (files : Files) (folder path : List ℕ) where
  -- a fault of the loose ref is that of the ref
  pub err_answers : (e : RefFault) (r : Result (Option Name) RefFault) → IsErrAnd r (λ at. at ≡ e) → Answers (joined folder path) (ref_of (files (joined folder path))) (Err e)
      → Answers (joined folder path) (ref_at files folder path) r
  err_answers e (Ok o) is a = absurd is
  err_answers e (Err at) is a = by at (subst (λ (x : RefFault). Answers (joined folder path) (ref_of (files (joined folder path))) (Err x)) (sym is) a)
    where
      by : (x : RefFault) → Answers (joined folder path) (ref_of (files (joined folder path))) (Err x) → Answers (joined folder path) (ref_at files folder path) (Err x)
      by fault.Memory a = tt
      by fault.Disk a = tt
      by (fault.BadRef place) a = (a.0, by_loose files folder path Bad a.1)

  -- a loose ref's head is the ref's
  pub head_answers : (head : Name) → ref_of (files (joined folder path)) ≡ Head head → ref_at files folder path ≡ Head head
  head_answers head is = by_loose files folder path (Head head) is

  -- and the packed ref counts where no loose one exists
  pub packed_answers : (o : Option Name) → ref_of (files (joined folder path)) ≡ Absent → o ≡ head_of path (packed_at files folder) → Answers (joined folder path) (ref_at files folder path) (Ok o)
  packed_answers None is found = by_loose files folder path Absent is ∙ ap head_if (sym found)
  packed_answers (Some name) is found = by_loose files folder path Absent is ∙ ap head_if (sym found)

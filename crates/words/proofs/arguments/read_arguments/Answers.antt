use Rattle.std.proofs.Common.{◌∙◌, ap, sym, map, option_map, ⊎_elim, List, ℕ, Some, None, codes}
use Rattle.std.specs.Borrow.{Bor}
use Rattle.clap.proofs.WalkLemmas.{raw_values-rows}
use Rattle.clap.specs.Walk.{all_of}
use Rattle.clap.specs.Matches.{found_of}
use Rattle.clap.specs.Simple.{app_of, is_simple}
use Rattle.clap.specs.Faults.{is_simple_and_free}
use Rattle.words.proofs.ClapLemmas.{app_is_free, app_is_simple, at_fault, at_ok, no_arguments, some_arguments}
use Rattle.words.proofs.arguments.read_arguments.Goals as goal

abbrev now : List (Bor (List ℕ)) → List (List ℕ)
now = map (λ s. s.now)

pub returns-in-Some : goal.returns-in-Some
returns-in-Some c =
    let is = c.in_ok-command.ensures in
    let none = c.in-Ok.ensures.kinds (ap is_simple_and_free is ∙ app_is_free) in
    let rows = (c.in-Ok.ensures.matches (ap is_simple is ∙ app_is_simple)).0 in
    let got = ap (option_map (λ (s : Bor (List (Bor (List ℕ)))). now s.now)) (sym c.in-Some.is) ∙ c.get_strs.ensures ∙ raw_values-rows (found_of c.in-Ok.matches) (codes "argument") ∙ ap (all_of (codes "argument")) rows in
    let read = at_ok c.args.rest.now (app_of c.in_ok-command.command) (Some (now c.in-Some.arguments.now)) is none got in
    read.1 ∙ ap Some (some_arguments read.0 (now c.in-Some.arguments.now) read.2 ∙ ap now (sym (c.in_ok-from_slice-in-Some.ensures.items)))

pub returns-in-Ok : goal.returns-in-Ok
returns-in-Ok c =
    let is = c.in_ok-command.ensures in
    let none = c.in-Ok.ensures.kinds (ap is_simple_and_free is ∙ app_is_free) in
    let rows = (c.in-Ok.ensures.matches (ap is_simple is ∙ app_is_simple)).0 in
    let got = ap (option_map (λ (s : Bor (List (Bor (List ℕ)))). now s.now)) (sym c.in-None.is) ∙ c.get_strs.ensures ∙ raw_values-rows (found_of c.in-Ok.matches) (codes "argument") ∙ ap (all_of (codes "argument")) rows in
    let read = at_ok c.args.rest.now (app_of c.in_ok-command.command) None is none got in
    read.1 ∙ ap Some (no_arguments read.0 read.2 ∙ ap now (sym c.new.ensures.items))

pub returns : goal.returns
returns c =
    let is = c.in_ok-command.ensures in
    let kinds = c.in-Err.ensures.kinds (ap is_simple_and_free is ∙ app_is_free) in
    ⊎_elim (λ m. absurd (c.in_default.not-OutOfMemory (c.kind.ensures ∙ m))) (λ among. at_fault c.args.rest.now (app_of c.in_ok-command.command) c.in-Err.error.kind is among) kinds

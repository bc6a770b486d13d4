use Rattle.std.proofs.Common.{◌≡◌, rules, true, false}
use Rattle.std.specs.List.{list_all}
use Rattle.git_object.specs.Reading.{has_entry_name, are_distinct}
use Rattle.git_object.proofs.TreeLaws.{good_names, bad_names}
use Rattle.git_object.proofs.tree.Tree.has_good_names.Goals as goal

pub returns-then-not-have_entry_names : goal.returns-then-not-have_entry_names
returns-then-not-have_entry_names c = (let bad : list_all has_entry_name c.args.self.now.entries ≡ false = search rules in bad_names c.args.self.now bad)

pub returns : goal.returns
returns c =
    let all : list_all has_entry_name c.args.self.now.entries ≡ true = search rules in
    let tested : c.in_ok-are_distinct.field-0 ≡ are_distinct c.args.self.now.entries = search rules in
    good_names c.args.self.now c.in_ok-are_distinct.field-0 all tested

-- piece by piece
use Rattle.std.proofs.Common.{◌++◌}
use Rattle.std.specs.Prelude.{codes}
use Rattle.hfs_page.specs.Facts.{head_text, start_text}
use Rattle.hfs_page.proofs.Joins.{joined, joined-ok}
use Rattle.hfs_page.proofs.facts.push_head.Goals as goal

pub returns : goal.returns
unfolding head_text
returns c = joined-ok c.push_bytes-6.result _ _ _ ((((((start_text) ++ (c.args.title.now)) ++ (codes "</title>\n<style>")) ++ (c.args.style.now)) ++ (codes "</style>\n</head>\n<body>\n<main>\n<h1>")) ++ (c.args.title.now)) (codes "</h1>\n") (joined _ _ _ (((((start_text) ++ (c.args.title.now)) ++ (codes "</title>\n<style>")) ++ (c.args.style.now)) ++ (codes "</style>\n</head>\n<body>\n<main>\n<h1>")) (c.args.title.now) (joined _ _ _ ((((start_text) ++ (c.args.title.now)) ++ (codes "</title>\n<style>")) ++ (c.args.style.now)) (codes "</style>\n</head>\n<body>\n<main>\n<h1>") (joined _ _ _ (((start_text) ++ (c.args.title.now)) ++ (codes "</title>\n<style>")) (c.args.style.now) (joined _ _ _ ((start_text) ++ (c.args.title.now)) (codes "</title>\n<style>") (joined _ _ _ (start_text) (c.args.title.now) c.in_ok-push_start.ensures c.in_ok-push_bytes.ensures) c.in_ok-push_bytes-2.ensures) c.in_ok-push_bytes-3.ensures) c.in_ok-push_bytes-4.ensures) c.in_ok-push_bytes-5.ensures) c.push_bytes-6.ensures

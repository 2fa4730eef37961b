mod Depths
mod Evaluations
mod Exits
mod Loops
mod RankLaws

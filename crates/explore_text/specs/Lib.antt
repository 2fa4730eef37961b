pub mod ExploreTexts

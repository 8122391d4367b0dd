mod RulingLaws
